use Rattle.std.proofs.Common.{◌≡◌, refl, arith}
use Rattle.sixel_terminal.proofs.CanvasLemmas.{filled_none, filled_more}
use Rattle.sixel_terminal.proofs.canvas.fill.Goals as goal

pub loop-row-init : goal.loop-row-init
loop-row-init c = filled_none c.args.width c.args.columns c.args.rows (λ old. c.args.ink.now) c.args.inks.now

pub loop-row-preserved : goal.loop-row-preserved
loop-row-preserved c =
    filled_more c.loop-row.row c.args.width _ _ c.args.columns c.args.rows (λ old. c.args.ink.now) c.args.inks.now
    c.loop-row.inks c.fill_row.new.inks c.requires.some c.requires.columns_are.0 c.requires.columns_are.1
    c.loop-row.auto.row refl refl (λ old. refl) c.loop-row.invariant c.fill_row.auto.inks c.fill_row.ensures

pub returns : goal.returns
returns c =
    let done : c.loop-row.row ≡ c.args.rows.end = omega arith in
    (rw done at c.loop-row.invariant).pixels
