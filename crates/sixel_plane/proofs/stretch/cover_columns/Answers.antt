use Rattle.sixel_plane.proofs.StretchLemmas.{covered_group}
use Rattle.sixel_plane.proofs.stretch.cover_columns.Goals as goal

pub returns : goal.returns
returns c = covered_group c.args.at c.args.coverage.now c.args.sixels c.fits-sixels.0 c.requires.room
