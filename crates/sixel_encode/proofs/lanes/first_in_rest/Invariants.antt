use Rattle.std.proofs.Common.{◌==◌, not}
use Rattle.sixel_plane.specs.Lanes.{NonePasses}
use Rattle.sixel_encode.proofs.lanes.first_in_rest.Given as goal

abbrev pub invariant-loop-index : goal.invariant-loop-index
invariant-loop-index l = NonePasses (λ b. not (b == l.byte)) l.from l.index l.bytes
