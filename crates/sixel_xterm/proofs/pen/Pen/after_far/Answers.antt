use Rattle.std.proofs.Common.{◌≡◌, ◌∙◌, ◌+◌, ap, arith, length, min, sym}
use Rattle.sixel_xterm.specs.declared.pen.Pen.{Pen}
use Rattle.sixel_xterm.specs.XTerm.{pen_at, xterm_pen, xterm_side}
use Rattle.sixel_xterm.proofs.PenLemmas.{pen_blank_over}
use Rattle.sixel_xterm.proofs.pen.Pen.after_far.Goals as goal

pub returns-else-has_painting : goal.returns-else-has_painting
returns-else-has_painting c = λ before is past.
    let bytes = c.args.bytes.now in
    let column : (xterm_pen before).column ≡ c.args.self.column = ap (λ (p : Pen). p.column) (sym is) in
    let sum : min (c.args.self.column + c.min.result) xterm_side
    ≡ min ((xterm_pen before).column + length bytes) xterm_side =
    omega (arith, column, c.min.ensures, c.from.ensures) in
    c.right.ensures
    ∙ (ap pen_at sum
    ∙ sym (pen_blank_over before bytes (ap (λ (p : Pen). p.ended) (sym is) ∙ c.requires.goes)
    (sym c.has_painting.ensures ∙ c.if-has_painting.false) c.requires.some))
