use Rattle.std.proofs.Common.{◌≡◌, ◌∙◌, ◌-◌, ap, arith, sym}
use Rattle.sixel_xterm.specs.declared.pen.Pen.{Pen}
use Rattle.sixel_xterm.specs.XTerm.{xterm_pen, xterm_side}
use Rattle.sixel_xterm.proofs.XTermLemmas.{xterm_plain}
use Rattle.sixel_xterm.proofs.xterm.XTermReading.plain_sixels.Goals as goal

pub returns-else-is_past_rows : goal.returns-else-is_past_rows
returns-else-is_past_rows c = λ before s.
    let column : c.args.self.now.pen.column ≡ (xterm_pen before).column = ap (λ (p : Pen). p.column) s.pen_is in
    let left : c.columns_left.result ≡ xterm_side - c.args.self.now.pen.column = c.columns_left.ensures in
    xterm_plain before c.from.result
    (sym (c.is_free.ensures before s) ∙ c.if-not-is_free.false)
    (sym (c.is_past_rows.ensures before s) ∙ c.if-is_past_rows.false) (omega (arith, column, left, c.from.ensures))
