use Rattle.std.proofs.Common.{◌≡◌, refl, arith}
use Rattle.sixel_terminal.specs.Canvases.{laid_under}
use Rattle.sixel_terminal.proofs.CanvasLemmas.{filled_more, filled_none, laid_twice}
use Rattle.sixel_terminal.proofs.canvas.fill_under.Goals as goal

pub loop-row-init : goal.loop-row-init
loop-row-init c = filled_none c.args.width c.args.columns c.args.rows (laid_under c.args.ink.now) c.args.inks.now

pub loop-row-preserved : goal.loop-row-preserved
loop-row-preserved c =
    filled_more c.loop-row.row c.args.width _ _ c.args.columns c.args.rows (laid_under c.args.ink.now) c.args.inks.now
    c.loop-row.inks c.fill_row_under.new.inks c.requires.some c.requires.columns_are.0 c.requires.columns_are.1
    c.loop-row.auto.row refl refl (laid_twice c.args.ink.now) c.loop-row.invariant c.fill_row_under.auto.inks
    c.fill_row_under.ensures

pub returns : goal.returns
returns c =
    let done : c.loop-row.row ≡ c.args.rows.end = omega arith in
    (rw done at c.loop-row.invariant).pixels
