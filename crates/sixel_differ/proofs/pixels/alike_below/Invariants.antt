use Rattle.std.proofs.Common.{◌≤◌, ◌-◌, length}
use Rattle.sixel_differ.specs.Pixels.{AreSameBelow}
use Rattle.sixel_differ.proofs.pixels.alike_below.Given as goal

abbrev pub invariant-loop-at : goal.invariant-loop-at
invariant-loop-at l = (l.at ≤ length l.a) × AreSameBelow l.a l.b l.at

abbrev pub decreases-loop-at : goal.decreases-loop-at
decreases-loop-at l = length l.a - l.at
