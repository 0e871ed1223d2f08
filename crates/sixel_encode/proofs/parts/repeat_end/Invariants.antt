use Rattle.std.specs.Prelude.{nat_le}
use Rattle.sixel_plane.specs.Lanes.{NonePasses}
use Rattle.sixel_encode.proofs.parts.repeat_end.Given as goal

abbrev pub invariant-loop-index : goal.invariant-loop-index
invariant-loop-index l = NonePasses (λ b. nat_le 63 b) l.from l.index l.columns
