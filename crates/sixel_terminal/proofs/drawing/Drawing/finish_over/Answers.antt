use Rattle.std.proofs.Common.{◌≡◌, ◌*◌, ◌∙◌, ◌++◌, length, take, drop, ap, sym, subst}
use Rattle.std.proofs.lemmas.List.{length-map, take_at}
use Rattle.sixel_terminal.specs.Screens.{colour_in_ink}
use Rattle.sixel_terminal.specs.Drawings.{Drawn, HasDrawn}
use Rattle.sixel_terminal.specs.Standing.{StandsAfter}
use Rattle.sixel_terminal.proofs.drawing.Drawing.finish_over.Goals as goal

pub returns-clause-shown : goal.returns-clause-shown
returns-clause-shown c = λ events known.
    let inside = c.self.inside in
    let drawn = subst (λ (d : Drawn). HasDrawn d events) (sym c.self.view_is) known in
    let terminal : inside.terminal ≡ c.args.self.terminal = ap (λ (d : Drawn). d.terminal) c.self.view_is in
    let new = c.settle_over.new.inks in
    let inks : take inside.pixels.len (new ++ drop (length new) inside.pixels.items) ≡ new =
    take_at new _ _ (c.settle_over.auto.inks ∙ c.deref_mut.ensures.len) in
    let before : StandsAfter inside.terminal events inside.pen inside.colours c.deref_mut.result.now =
    rw c.deref_mut.ensures.value drawn.stands in
    rw (inks, sym terminal) (c.settle_over.ensures.shown inside.pen events before drawn.controls)

pub returns-clause-whole : goal.returns-clause-whole
returns-clause-whole c =
    let inside = c.self.inside in
    let new = c.settle_over.new.inks in
    let inks : take inside.pixels.len (new ++ drop (length new) inside.pixels.items) ≡ new =
    take_at new _ _ (c.settle_over.auto.inks ∙ c.deref_mut.ensures.len) in
    let long : length new ≡ inside.terminal.choices.screen_width * inside.terminal.choices.screen_height =
    c.settle_over.auto.inks ∙ ap length c.deref_mut.ensures.value ∙ c.self.invariant.1.stands.pixels in
    rw inks
    (length-map new colour_in_ink ∙ long
    ∙ ap (λ (d : Drawn). d.terminal.choices.screen_width * d.terminal.choices.screen_height) c.self.view_is)
