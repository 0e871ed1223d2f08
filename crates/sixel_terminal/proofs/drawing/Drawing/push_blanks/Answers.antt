use Rattle.std.proofs.Common.{◌++◌, sym, subst}
use Rattle.sixel_terminal.specs.Blanks.{AreBlank}
use Rattle.sixel_terminal.specs.Drawings.{Drawn, HasDrawn}
use Rattle.sixel_terminal.proofs.BlankLemmas.{drawn_blanks, ones, ones_blank}
use Rattle.sixel_terminal.proofs.drawing.Drawing.push_blanks.Goals as goal

pub invariant_of-self : goal.invariant_of-self
invariant_of-self c =
    let inside = c.self.inside in
    let events = c.self.invariant.0 in
    let drawn = c.self.invariant.1 in
    let blank = ones_blank inside.terminal.choices.zero c.args.columns in (
      events ++ ones c.args.columns,
      drawn_blanks _ events (ones c.args.columns) inside.terminal.choices.zero c.args.columns _ drawn blank
          (c.past_blanks-self-inside.ensures events (ones c.args.columns) inside.colours inside.pixels.items blank drawn.stands),
    )

pub returns-clause-drawn : goal.returns-clause-drawn
returns-clause-drawn c = λ events blanks are known.
    let inside = c.self.inside in
    let drawn = subst (λ (d : Drawn). HasDrawn d events) (sym c.self.view_is) known in
    let blank = subst (λ (d : Drawn). AreBlank d.terminal.choices.zero c.args.columns blanks) (sym c.self.view_is) are in
    drawn_blanks _ events blanks inside.terminal.choices.zero c.args.columns _ drawn blank
    (c.past_blanks-self-inside.ensures events blanks inside.colours inside.pixels.items blank drawn.stands)
