use Rattle.std.specs.Int.Bits.{bit_or}
use Rattle.sixel_plane.specs.Lanes.{AreChanged}
use Rattle.sixel_plane.proofs.lanes.or_into.Given as goal

abbrev pub invariant-loop-index : goal.invariant-loop-index
invariant-loop-index l = AreChanged l.rest l.index (λ b. bit_or b l.bits) l.initial.bytes l.bytes
