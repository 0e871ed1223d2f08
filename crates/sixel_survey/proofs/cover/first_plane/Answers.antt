use Rattle.std.proofs.Common.{◌≡◌, ◌∙◌, false, true, sym, rules, Option, ap}
use Rattle.std.specs.Option.{option_map_or}
use Rattle.sixel_model.specs.Events.{Attributes, has_sides, raster_of}
use Rattle.sixel_model.specs.Rules.{breaks_box_size, raster_before}
use Rattle.sixel_judge.proofs.DrawLemmas.{no_attributes}
use Rattle.sixel_judge.proofs.GrowthLemmas.{err_says}
use Rattle.sixel_survey.proofs.CoverLemmas.{cover_declared, declared_in_range, declares_sides, none_declared}
use Rattle.sixel_survey.proofs.CoverLemmas.{sides_told, uncovered_next, uncovered_stays, wrong_sides}
use Rattle.sixel_survey.proofs.cover.first_plane.Goals as goal

pub returns-then-notes-clause-ok : goal.returns-then-notes-clause-ok
returns-then-notes-clause-ok g c = λ before s none.
    uncovered_stays before c.args.event.now (sym s.declared_is ∙ c.if-notes.true) none

pub returns-then-breaks_box_size-clause-ok : goal.returns-then-breaks_box_size-clause-ok
returns-then-breaks_box_size-clause-ok g c = λ before s none.
    let broken : breaks_box_size c.args.event.now ≡ true = search rules in
    uncovered_next before c.args.event.now
    (none_declared (raster_before before) (sym s.declared_is ∙ c.if-notes.false))
    (wrong_sides c.args.event.now broken)

pub blank-requires-clause-width : goal.blank-requires-clause-width
blank-requires-clause-width g c =
    let fine : breaks_box_size c.args.event.now ≡ false = search rules in
    (declared_in_range
    (declares_sides c.args.event.now c.in-Some.width c.in-Some.height (sym c.in-Some.ensures) fine)).0

pub blank-requires-clause-height : goal.blank-requires-clause-height
blank-requires-clause-height g c =
    let fine : breaks_box_size c.args.event.now ≡ false = search rules in
    (declared_in_range
    (declares_sides c.args.event.now c.in-Some.width c.in-Some.height (sym c.in-Some.ensures) fine)).1

pub returns-in_err-blank-in-Some-clause-sides : goal.returns-in_err-blank-in-Some-clause-sides
returns-in_err-blank-in-Some-clause-sides g c =
    let fine : breaks_box_size c.args.event.now ≡ false = search rules in
    err_says _ c.from_residual.result
    (sides_told (declares_sides c.args.event.now c.in-Some.width c.in-Some.height (sym c.in-Some.ensures) fine))

pub returns-in_ok-blank-in-Some-clause-ok : goal.returns-in_ok-blank-in-Some-clause-ok
returns-in_ok-blank-in-Some-clause-ok g c = λ before s none.
    let fine : breaks_box_size c.args.event.now ≡ false = search rules in
    rw c.in_ok-blank-in-Some.ensures
    (cover_declared before (none_declared (raster_before before) (sym s.declared_is ∙ c.if-notes.false))
    (declares_sides c.args.event.now c.in-Some.width c.in-Some.height (sym c.in-Some.ensures) fine))

pub returns-in-None-clause-ok : goal.returns-in-None-clause-ok
returns-in-None-clause-ok g c = λ before s none.
    uncovered_next before c.args.event.now
    (none_declared (raster_before before) (sym s.declared_is ∙ c.if-notes.false))
    (ap (λ (o : Option Attributes). option_map_or has_sides o false)
    (no_attributes (raster_of c.args.event.now) (sym c.in-None.ensures)))
