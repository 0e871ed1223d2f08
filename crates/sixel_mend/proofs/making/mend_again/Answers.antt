use Rattle.std.proofs.Common.{◌∙◌, List, ap, length, map, subst, sym}
use Rattle.std.proofs.lemmas.Result.{err_from_is_err_and}
use Rattle.sixel_grammar.specs.Document.{events_of}
use Rattle.sixel_model.specs.Profiles.{count_of}
use Rattle.sixel_model.specs.declared.colour.Parts.{Parts}
use Rattle.sixel_terminal.specs.Screens.{colour_in_ink}
use Rattle.sixel_mend.specs.Marking.{IsNumbered}
use Rattle.sixel_mend.specs.Painted.{painted_colours}
use Rattle.sixel_mend.proofs.MarkedLemmas.{few_pixels, marked_again, measured_marked, pixels_of}
use Rattle.sixel_mend.proofs.MendLemmas.{numbering_refused, whole_screen}
use Rattle.sixel_mend.proofs.NotingLemmas.{noting}
use Rattle.sixel_mend.proofs.PaintedLemmas.{shown_over}
use Rattle.sixel_mend.proofs.making.mend_again.Goals as goal

pub returns-in_err-parts : goal.returns-in_err-parts
returns-in_err-parts c =
    let exit = c.from_residual-in_err-parts in
    let failed = err_from_is_err_and exit.result exit.ensures.1 in
    let s = c.requires.marked in
    let shown = c.in_ok-screen.ensures.shown in
    rw (failed.1, failed.2)
    (numbering_refused (count_of c.args.profile) (map colour_in_ink c.pixels.result.now) c.in_err-parts.field-0.0
    (measured_marked shown.0 s c.requires.sides shown.1) (c.pixels.ensures.pixels ∙ shown.2) c.in_err-parts.ensures.refused)

pub hidden_between-hidden-requires-clause-few : goal.hidden_between-hidden-requires-clause-few
hidden_between-hidden-requires-clause-few c =
    let s = c.requires.marked in
    few_pixels c.args.width c.args.height _ c.requires.sides
    (pixels_of c.args.mending.now c.pixels-2.result.now (events_of s.events) c.args.width c.args.height s.mark
    (c.pixels-2.ensures.pixels ∙ s.colours_are))

pub hidden_between-hidden-requires-clause-whole : goal.hidden_between-hidden-requires-clause-whole
hidden_between-hidden-requires-clause-whole c =
    let s = c.requires.marked in
    let m = c.args.mending.now in
    let w = c.args.width in
    let h = c.args.height in
    let shown = c.in_ok-screen.ensures.shown in
    pixels_of m c.pixels-2.result.now (events_of s.events) w h s.mark (c.pixels-2.ensures.pixels ∙ s.colours_are)
    ∙ sym (pixels_of m c.pixels-3.result.now (events_of shown.0) w h m.background
    (c.pixels-3.ensures.pixels ∙ shown.2 ∙ shown_over m (events_of shown.0) w h))

pub into_picture-requires-clause-numbered : goal.into_picture-requires-clause-numbered
into_picture-requires-clause-numbered c =
    let shown = c.in_ok-screen.ensures.shown in (
      count_of c.args.profile,
      map colour_in_ink c.pixels.result.now,
      c.in_ok-parts.ensures.numbered,
      ap (λ (cs : List Parts). length cs) (c.pixels.ensures.pixels ∙ shown.2)
          ∙ whole_screen c.args.mending.now (events_of shown.0) c.args.width c.args.height,
    )

pub returns : goal.returns
returns c =
    let s = c.requires.marked in
    let m = c.args.mending.now in
    let w = c.args.width in
    let h = c.args.height in
    let shown = c.in_ok-screen.ensures.shown in
    let over_background = shown_over m (events_of shown.0) w h in
    let numbered =
    subst (IsNumbered (count_of c.args.profile) c.in_ok-parts.parts.palette c.in_ok-parts.parts.registers.items)
    (c.pixels.ensures.pixels ∙ shown.2 ∙ over_background) c.in_ok-parts.ensures.numbered in
    let hidden =
    c.hidden_between-hidden.ensures s.mark m.background (painted_colours m (events_of shown.0) w h) s.other
    (c.pixels-2.ensures.pixels ∙ marked_again shown.0 s shown.1) (c.pixels-3.ensures.pixels ∙ shown.2 ∙ over_background) in
    rw c.into_picture.ensures
    (noting c.hidden_between-hidden.result (measured_marked shown.0 s c.requires.sides shown.1) numbered hidden)
