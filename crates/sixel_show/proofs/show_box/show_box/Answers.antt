use Rattle.std.proofs.Common.{refl, subst, sym}
use Rattle.std.specs.Prelude.{IsTrue}
use Rattle.std.proofs.lemmas.Result.{err_from_is_err_and}
use Rattle.sixel_grammar.specs.Document.{events_of}
use Rattle.sixel_ppm.specs.Ppm.{is_file_side}
use Rattle.sixel_terminal.specs.declared.choices.Choices.{Choices}
use Rattle.sixel_report.proofs.FormatLemmas.{as_refused}
use Rattle.sixel_show.specs.Outputs.{ShowBoxGives}
use Rattle.sixel_show.specs.Screens.{screen_terminal, show_choices}
use Rattle.sixel_show.proofs.BoxLemmas.{declared_sides, unboxed_written, written-boxed}
use Rattle.sixel_show.proofs.DrawLemmas.{told}
use Rattle.sixel_show.proofs.ScreenLemmas.{show_sides}
use Rattle.sixel_show.proofs.show_box.show_box.Goals as goal

pub returns-in-Some-clause-wrote : goal.returns-in-Some-clause-wrote
returns-in-Some-clause-wrote g c =
    let a = c.args in
    let terminal = screen_terminal a.profile a.showing a.fill a.selects in
    let shown = rw c.in-Some.is at c.in_ok-shown.ensures.shown in
    told (g.S.Source.state c.args.input.now).remaining _ _
    (λ bytes d.
    let sides = declared_sides (events_of d.0) d.2.0 d.2.1 in
    let has = show_sides a.profile (show_choices a.showing a.fill a.selects d.2.0.0 d.2.0.1) in
    written-boxed a.format a.profile terminal bytes d.0 d.2.0 c.write_shown.result
    (g.K.Sink.state c.args.output.now).taken (g.K.Sink.state c.write_shown.new.output).taken d.1 d.2.1
    (c.write_shown.ensures.wrote a.profile (terminal d.2.0) d.0 bytes d.1 d.2.2
    (subst (λ (k : Choices). IsTrue (is_file_side k.screen_width)) (sym has) sides.0)
    (subst (λ (k : Choices). IsTrue (is_file_side k.screen_height)) (sym has) sides.1))) shown

pub returns-in-None-clause-wrote : goal.returns-in-None-clause-wrote
returns-in-None-clause-wrote g c =
    let a = c.args in
    let terminal = screen_terminal a.profile a.showing a.fill a.selects in
    let shown = rw c.in-None.is at c.in_ok-shown.ensures.shown in
    told (g.S.Source.state c.args.input.now).remaining _ _
    (λ bytes d. unboxed_written a.format a.profile terminal bytes d.0 _ d.1 d.2) shown

pub returns-in_err-shown-clause-wrote : goal.returns-in_err-shown-clause-wrote
returns-in_err-shown-clause-wrote g c =
    let a = c.args in
    let failed = err_from_is_err_and c.from_residual.result c.from_residual.ensures.1 in
    rw (failed.1, failed.2)
    (as_refused a.format (λ bytes. ShowBoxGives a.profile (screen_terminal a.profile a.showing a.fill a.selects) bytes)
    (g.S.Source.state c.args.input.now).remaining c.in_err-shown.field-0.0 _ (λ bytes f is. (refl, is))
    c.in_err-shown.ensures.refused)
