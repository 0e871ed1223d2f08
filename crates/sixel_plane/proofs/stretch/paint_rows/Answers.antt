use Rattle.std.proofs.Common.{get_or, refl}
use Rattle.sixel_plane.proofs.StretchLemmas.{painted_none, rows_more}
use Rattle.sixel_plane.proofs.stretch.paint_rows.Goals as goal

pub loop-bit-init : goal.loop-bit-init
loop-bit-init c =
    painted_none c.args.width c.args.at 16 (λ j. get_or c.args.sixels j 0) c.args.register c.args.registers.now

pub loop-bit-preserved : goal.loop-bit-preserved
loop-bit-preserved c =
    rows_more c.loop-bit.bit c.args.width c.args.at c.args.register _ c.args.sixels c.args.registers.now
    c.loop-bit.registers c.paint_row.new.row refl c.loop-bit.invariant c.paint_row.ensures
