use Rattle.std.proofs.Common.{◌==◌}
use Rattle.std.specs.Int.{bit_at}
use Rattle.sixel_plane.specs.Lanes.{NonePasses}
use Rattle.sixel_plane.proofs.lanes.first_in_rest.Given as goal

abbrev pub invariant-loop-index : goal.invariant-loop-index
invariant-loop-index l = NonePasses (λ b. bit_at b l.bit == 0) l.from l.index l.bytes
