use Rattle.std.proofs.Common.{arith}
use Rattle.sixel_plane.proofs.StretchLemmas.{painted_group}
use Rattle.sixel_plane.proofs.stretch.paint_row.Goals as goal

pub returns : goal.returns
returns c =
    painted_group c.args.at c.args.bit c.args.register c.args.row.now c.args.sixels (omega (arith, c.requires.bit))
    c.fits-sixels.0 c.requires.room
