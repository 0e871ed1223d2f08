use Rattle.sixel_plane.specs.Lanes.{AreChanged}
use Rattle.sixel_plane.proofs.lanes.fill.Given as goal

abbrev pub invariant-loop-index : goal.invariant-loop-index
invariant-loop-index l = AreChanged l.rest l.index (λ b. l.value) l.initial.bytes l.bytes
