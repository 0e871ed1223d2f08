use Rattle.std.proofs.Common.{◌≡◌, ◌∙◌, ◌++◌, ◌∷◌, [], length, take, drop, sym, subst}
use Rattle.std.proofs.lemmas.List.{take_at}
use Rattle.sixel_terminal.specs.Drawings.{Drawn, HasDrawn}
use Rattle.sixel_terminal.specs.Standing.{StandsAfter}
use Rattle.sixel_terminal.proofs.DrawnLemmas.{drawn_push}
use Rattle.sixel_terminal.proofs.drawing.Drawing.push.Goals as goal

pub invariant_of-self : goal.invariant_of-self
invariant_of-self c =
    let inside = c.self.inside in
    let events = c.self.invariant.0 in
    let drawn = c.self.invariant.1 in
    let inks : take inside.pixels.len
    (c.draw-self-inside.new.inks ++ drop (length c.draw-self-inside.new.inks) inside.pixels.items)
    ≡ c.draw-self-inside.new.inks =
    take_at c.draw-self-inside.new.inks _ _ (c.draw-self-inside.auto.inks ∙ c.deref_mut.ensures.len) in
    let before : StandsAfter inside.terminal events inside.pen inside.colours c.deref_mut.result.now =
    rw c.deref_mut.ensures.value drawn.stands in
    rw inks (
      events ++ c.args.event.now ∷ [],
      drawn_push _ events c.args.event.now _ _ _ _ drawn (c.draw-self-inside.ensures events before)
          c.is_eight_bit.ensures,
    )

pub returns-clause-drawn : goal.returns-clause-drawn
returns-clause-drawn c = λ events known.
    let inside = c.self.inside in
    let drawn = subst (λ (d : Drawn). HasDrawn d events) (sym c.self.view_is) known in
    let inks : take inside.pixels.len
    (c.draw-self-inside.new.inks ++ drop (length c.draw-self-inside.new.inks) inside.pixels.items)
    ≡ c.draw-self-inside.new.inks =
    take_at c.draw-self-inside.new.inks _ _ (c.draw-self-inside.auto.inks ∙ c.deref_mut.ensures.len) in
    let before : StandsAfter inside.terminal events inside.pen inside.colours c.deref_mut.result.now =
    rw c.deref_mut.ensures.value drawn.stands in
    rw inks
    (drawn_push _ events c.args.event.now _ _ _ _ drawn (c.draw-self-inside.ensures events before)
    c.is_eight_bit.ensures)
