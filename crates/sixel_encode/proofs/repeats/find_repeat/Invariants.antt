use Rattle.std.proofs.Common.{◌≤◌, ◌-◌, length}
use Rattle.sixel_encode.specs.Columns.{NoFour}
use Rattle.sixel_encode.proofs.repeats.find_repeat.Given as goal

abbrev pub invariant-loop-at : goal.invariant-loop-at
invariant-loop-at l = record {
  after : l.from ≤ l.at;
  within : l.at ≤ length l.sixels;
  none : NoFour l.from l.at l.sixels;
}

abbrev pub decreases-loop-at : goal.decreases-loop-at
decreases-loop-at l = length l.sixels - l.at
