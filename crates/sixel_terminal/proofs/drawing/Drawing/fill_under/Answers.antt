use Rattle.std.proofs.Common.{◌≡◌, ◌∙◌, ◌++◌, ◌∷◌, length, take, drop, sym, ap, subst}
use Rattle.std.proofs.lemmas.List.{take_at}
use Rattle.sixel_terminal.specs.Drawings.{Drawn, HasDrawn}
use Rattle.sixel_terminal.specs.Standing.{StandsAfter}
use Rattle.sixel_terminal.proofs.UnderLemmas.{drawn_front, own_raster}
use Rattle.sixel_terminal.proofs.drawing.Drawing.fill_under.Goals as goal

pub invariant_of-self : goal.invariant_of-self
invariant_of-self c =
    let inside = c.self.inside in
    let events = c.self.invariant.0 in
    let drawn = c.self.invariant.1 in
    let new = c.draw_under-self-inside.new.inks in
    let inks : take inside.pixels.len (new ++ drop (length new) inside.pixels.items) ≡ new =
    take_at new _ _ (c.draw_under-self-inside.auto.inks ∙ c.deref_mut.ensures.len) in
    let before : StandsAfter inside.terminal events inside.pen inside.colours c.deref_mut.result.now =
    rw c.deref_mut.ensures.value drawn.stands in
    rw inks (
      own_raster inside.terminal c.args.width c.args.height ∷ events,
      drawn_front _ events c.draw_under-self-inside.result new c.args.width c.args.height drawn
          (c.draw_under-self-inside.ensures events inside.colours before),
    )

pub returns-clause-drawn : goal.returns-clause-drawn
returns-clause-drawn c = λ events known.
    let inside = c.self.inside in
    let drawn = subst (λ (d : Drawn). HasDrawn d events) (sym c.self.view_is) known in
    let new = c.draw_under-self-inside.new.inks in
    let inks : take inside.pixels.len (new ++ drop (length new) inside.pixels.items) ≡ new =
    take_at new _ _ (c.draw_under-self-inside.auto.inks ∙ c.deref_mut.ensures.len) in
    let before : StandsAfter inside.terminal events inside.pen inside.colours c.deref_mut.result.now =
    rw c.deref_mut.ensures.value drawn.stands in
    let tall : inside.terminal.choices.tall ≡ c.args.self.now.terminal.choices.tall =
    ap (λ (d : Drawn). d.terminal.choices.tall) c.self.view_is in
    rw (inks, ← tall)
    (drawn_front _ events c.draw_under-self-inside.result new c.args.width c.args.height drawn
    (c.draw_under-self-inside.ensures events inside.colours before))
