use Rattle.std.proofs.Common.{◌-◌, ◌*◌, ◌≤◌}
use Rattle.sixel_encode.specs.Gaps.{AreGapEnds}
use Rattle.sixel_encode.proofs.gaps.Gaps.list.Given as goal

abbrev pub invariant-loop-group : goal.invariant-loop-group
invariant-loop-group l = record {
  within : l.group ≤ l.count;
  ends : AreGapEnds (l.group * 32) l.sixels l.self.ends l.self.count;
}

abbrev pub decreases-loop-group : goal.decreases-loop-group
decreases-loop-group l = l.count - l.group
