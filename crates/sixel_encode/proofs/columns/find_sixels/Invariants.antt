use Rattle.std.proofs.Common.{◌≡◌, ◌≤◌, ◌<◌, ◌*◌, ◌-◌, length}
use Rattle.std.specs.Int.{bit_at}
use Rattle.sixel_encode.specs.Columns.{AreFound}
use Rattle.sixel_encode.proofs.columns.find_sixels.Given as goal

abbrev pub invariant-loop-group : goal.invariant-loop-group
invariant-loop-group l = record {
  within : l.group ≤ l.count;
  set : l.group < l.count → bit_at l.groups l.group ≡ 1;
  long : length l.sixels ≡ length l.fn.sixels;
  found : AreFound (l.group * 32) l.rows l.width l.register l.groups l.sixels;
}

abbrev pub decreases-loop-group : goal.decreases-loop-group
decreases-loop-group l = l.count - l.group
