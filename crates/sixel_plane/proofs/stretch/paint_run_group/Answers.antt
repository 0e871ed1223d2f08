use Rattle.std.proofs.Common.{arith}
use Rattle.sixel_plane.proofs.StretchLemmas.{run_alone}
use Rattle.sixel_plane.proofs.stretch.paint_run_group.Goals as goal

pub returns : goal.returns
returns c =
    let both = run_alone c.args.width c.args.start c.args.covered c.args.register c.args.count _ c.args.bits
    c.sixels_of_run-sixels.result c.args.registers.now c.paint_rows.new.registers c.args.coverage.now
    c.cover_columns.new.coverage c.requires.few c.sixels_of_run-sixels.ensures (omega arith) c.paint_rows.ensures
    c.cover_columns.ensures in record { painted = (16, c.requires.few, both.0, both.1) }
