use Rattle.std.proofs.Common.{◌-◌, ◌≤◌, length, take}
use Rattle.sixel_scan.specs.Scanning.{NoneBegins}
use Rattle.sixel_scan.proofs.opening.text_bytes_in.Given as goal

abbrev pub invariant-loop-after : goal.invariant-loop-after
invariant-loop-after l = record {
  within : l.count ≤ length l.piece;
  none : NoneBegins l.eight (take l.count l.piece);
}

abbrev pub decreases-loop-after : goal.decreases-loop-after
decreases-loop-after l = length l.piece - l.count
