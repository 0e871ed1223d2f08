use Rattle.std.proofs.Common.{◌≡◌, ◌∙◌, ◌++◌, length, take, drop, refl, sym, subst}
use Rattle.std.proofs.lemmas.List.{take_at}
use Rattle.sixel_terminal.specs.Drawings.{Drawn, HasDrawn}
use Rattle.sixel_terminal.specs.Standing.{StandsAfter}
use Rattle.sixel_terminal.specs.Stretches.{sixels_of}
use Rattle.sixel_terminal.proofs.StretchLemmas.{drawn_stretch}
use Rattle.sixel_terminal.proofs.drawing.Drawing.push_stretch.Goals as goal

pub invariant_of-self : goal.invariant_of-self
invariant_of-self c =
    let inside = c.self.inside in
    let events = c.self.invariant.0 in
    let drawn = c.self.invariant.1 in
    let inks : take inside.pixels.len
    (c.try_draw_stretch.new.inks ++ drop (length c.try_draw_stretch.new.inks) inside.pixels.items)
    ≡ c.try_draw_stretch.new.inks =
    take_at c.try_draw_stretch.new.inks _ _ (c.try_draw_stretch.auto.inks ∙ c.deref_mut.ensures.len) in
    let before : StandsAfter inside.terminal events inside.pen inside.colours c.deref_mut.result.now =
    rw c.deref_mut.ensures.value drawn.stands in
    let after = c.in-Some.ensures.drawn events before in
    rw inks (
      events ++ sixels_of c.args.bytes.now,
      drawn_stretch _ events c.args.bytes.now (record inside.pen { column = c.in-Some.column })
          c.try_draw_stretch.new.inks drawn after,
    )

pub returns-in-Some-clause-drawn : goal.returns-in-Some-clause-drawn
returns-in-Some-clause-drawn c = λ events known.
    let inside = c.self.inside in
    let drawn = subst (λ (d : Drawn). HasDrawn d events) (sym c.self.view_is) known in
    let inks : take inside.pixels.len
    (c.try_draw_stretch.new.inks ++ drop (length c.try_draw_stretch.new.inks) inside.pixels.items)
    ≡ c.try_draw_stretch.new.inks =
    take_at c.try_draw_stretch.new.inks _ _ (c.try_draw_stretch.auto.inks ∙ c.deref_mut.ensures.len) in
    let before : StandsAfter inside.terminal events inside.pen inside.colours c.deref_mut.result.now =
    rw c.deref_mut.ensures.value drawn.stands in
    let after = c.in-Some.ensures.drawn events before in
    rw inks
    (drawn_stretch _ events c.args.bytes.now (record inside.pen { column = c.in-Some.column })
    c.try_draw_stretch.new.inks drawn after)

pub returns-in-None-clause-drawn : goal.returns-in-None-clause-drawn
returns-in-None-clause-drawn c = λ events known.
    let inside = c.self.inside in
    let inks : take inside.pixels.len
    (c.try_draw_stretch.new.inks ++ drop (length c.try_draw_stretch.new.inks) inside.pixels.items)
    ≡ inside.pixels.items =
    take_at c.try_draw_stretch.new.inks _ _ (c.try_draw_stretch.auto.inks ∙ c.deref_mut.ensures.len)
    ∙ c.in-None.ensures.kept refl ∙ c.deref_mut.ensures.value in
    c.push_each.ensures.drawn events
    (rw inks (subst (λ (d : Drawn). HasDrawn d events) (sym c.self.view_is) known))
