use Rattle.std.proofs.Common.{◌+◌, arith}
use Rattle.sixel_plane.proofs.StretchLemmas.{group_alone}
use Rattle.sixel_plane.proofs.stretch.paint_group.Goals as goal

pub sixels_at-sixels-requires-clause-sixels : goal.sixels_at-sixels-requires-clause-sixels
sixels_at-sixels-requires-clause-sixels c = λ j lt.
    c.requires.sixels (0 + j) (omega (arith, lt))

pub returns : goal.returns
returns c =
    let both = group_alone c.args.width c.args.start c.args.covered c.args.register c.args.count _ c.args.bytes.now
    c.sixels_at-sixels.result c.args.registers.now c.paint_rows.new.registers c.args.coverage.now
    c.cover_columns.new.coverage c.requires.few c.sixels_at-sixels.ensures (omega arith) c.paint_rows.ensures
    c.cover_columns.ensures in record { painted = (16, c.requires.few, both.0, both.1) }
