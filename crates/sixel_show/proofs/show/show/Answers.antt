use Rattle.std.proofs.Common.{ℕ, refl, subst, sym}
use Rattle.std.specs.Prelude.{IsTrue}
use Rattle.std.proofs.lemmas.Result.{err_from_is_err_and}
use Rattle.sixel_ppm.specs.Ppm.{is_file_side}
use Rattle.sixel_terminal.specs.declared.choices.Choices.{Choices}
use Rattle.sixel_report.proofs.FormatLemmas.{as_refused}
use Rattle.sixel_show.specs.Outputs.{ShowGives}
use Rattle.sixel_show.specs.Screens.{show_terminal}
use Rattle.sixel_show.proofs.DrawLemmas.{told}
use Rattle.sixel_show.proofs.ScreenLemmas.{show_sides}
use Rattle.sixel_show.proofs.show.show.Goals as goal

pub returns-clause-wrote : goal.returns-clause-wrote
returns-clause-wrote g c =
    let t = show_terminal c.args.profile c.args.choices in
    let has = show_sides c.args.profile c.args.choices in
    told (g.S.Source.state c.args.input.now).remaining _ _
    (λ bytes d.
    c.write_shown.ensures.wrote c.args.profile t d.0 bytes d.1 d.2
    (subst (λ (k : Choices). IsTrue (is_file_side k.screen_width)) (sym has) c.requires.wide)
    (subst (λ (k : Choices). IsTrue (is_file_side k.screen_height)) (sym has) c.requires.high))
    c.in_ok-shown.ensures.shown

pub returns-in_err-shown-clause-wrote : goal.returns-in_err-shown-clause-wrote
returns-in_err-shown-clause-wrote g c =
    let t = show_terminal c.args.profile c.args.choices in
    let failed = err_from_is_err_and c.from_residual.result c.from_residual.ensures.1 in
    rw (failed.1, failed.2)
    (as_refused c.args.format (λ bytes. ShowGives c.args.profile t bytes) (g.S.Source.state c.args.input.now).remaining
    c.in_err-shown.field-0.0 _ (λ bytes f is. (refl, is)) c.in_err-shown.ensures.refused)
