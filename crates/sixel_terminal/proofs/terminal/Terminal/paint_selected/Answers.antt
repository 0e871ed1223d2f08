use Rattle.std.proofs.Common.{◌/◌, ◌%◌, Bool, arith, cond, get_or, ap, sym}
use Rattle.sixel_terminal.specs.Canvases.{black}
use Rattle.sixel_terminal.specs.Steps.{ink_by_colours}
use Rattle.sixel_terminal.proofs.SixelLemmas.{blank_covers}
use Rattle.sixel_terminal.proofs.terminal.Terminal.paint_selected.Goals as goal

pub returns-then-bits-eq0 : goal.returns-then-bits-eq0
returns-then-bits-eq0 c = λ i lt.
    let t = c.args.self.now in
    let ink = ink_by_colours t c.args.colours.now c.args.pen.selected in
    ap (λ (v : Bool). cond v ink (get_or c.args.inks.now i black))
    (sym (blank_covers t c.args.pen c.args.count c.args.bits (i % t.choices.screen_width)
    (i / t.choices.screen_width) (omega (arith, c.if-bits-eq0.true))))
