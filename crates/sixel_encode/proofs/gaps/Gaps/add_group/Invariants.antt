use Rattle.std.proofs.Common.{◌<◌, ◌^◌}
use Rattle.sixel_encode.specs.Gaps.{AreGapEndsBut}
use Rattle.sixel_encode.proofs.gaps.Gaps.add_group.Given as goal

abbrev pub invariant-loop-left : goal.invariant-loop-left
invariant-loop-left l = record {
  few : l.left < 2 ^ 32;
  ends : AreGapEndsBut l.at l.left l.sixels l.self.ends l.self.count;
}

abbrev pub decreases-loop-left : goal.decreases-loop-left
decreases-loop-left l = l.left
