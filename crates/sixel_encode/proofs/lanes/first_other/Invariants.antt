use Rattle.std.proofs.Common.{◌==◌, ◌-◌, ◌≤◌, not}
use Rattle.sixel_plane.specs.Lanes.{NonePasses}
use Rattle.sixel_encode.proofs.lanes.first_other.Given as goal

abbrev pub invariant-loop-at : goal.invariant-loop-at
invariant-loop-at l = record {
  after : l.from ≤ l.at;
  none : NonePasses (λ b. not (b == l.byte)) l.from l.at l.bytes;
}

abbrev pub decreases-loop-at : goal.decreases-loop-at
decreases-loop-at l = l.last - l.at
