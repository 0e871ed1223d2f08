use Rattle.std.proofs.Common.{◌==◌}
use Rattle.sixel_plane.specs.Lanes.{NonePasses}
use Rattle.sixel_encode.proofs.parts.singles_end.Given as goal

abbrev pub invariant-loop-index : goal.invariant-loop-index
invariant-loop-index l = NonePasses (λ b. b == 33) l.from l.index l.columns
