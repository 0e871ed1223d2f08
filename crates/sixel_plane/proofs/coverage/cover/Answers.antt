use Rattle.sixel_plane.proofs.BandLemmas.{nothing_changed}
use Rattle.sixel_plane.proofs.coverage.cover.Goals as goal

pub returns-then-bits-eq0 : goal.returns-then-bits-eq0
returns-then-bits-eq0 c =
    nothing_changed c.args.start _ c.args.bits c.args.coverage.now c.if-bits-eq0.true
