use Rattle.std.proofs.Common.{refl}
use Rattle.std.proofs.lemmas.Result.{err_from_is_err_and}
use Rattle.sixel_model.specs.Profiles.{count_of}
use Rattle.sixel_report.specs.declared.task.Task.TheVariants.{Survey}
use Rattle.sixel_run.specs.Outputs.{SurveyGives}
use Rattle.sixel_run.proofs.CheckLemmas.{grown}
use Rattle.sixel_run.proofs.LineTaskLemmas.{lines_cut, lines_put, lines_refused, refused_if}
use Rattle.sixel_run.proofs.SurveyLemmas.{surveyed}
use Rattle.sixel_run.proofs.running.survey.survey.Goals as goal

pub returns-in-Ok : goal.returns-in-Ok
returns-in-Ok g c =
    let survey = c.in_ok-survey.survey in
    lines_put _ _ _ refl _ _ _ _ _ _
    (surveyed _ _ (g.S.Source.state c.args.input.now).remaining survey _ c.in_ok-survey.ensures.answer
    c.status_of-status.ensures)
    c.in_ok-survey.ensures.left c.in_ok-survey.ensures.failures _ _
    (rw (c.as_slice.ensures.value, c.survey_items.ensures.items) at c.in-Ok.ensures)

pub returns-in-Err : goal.returns-in-Err
returns-in-Err g c =
    let survey = c.in_ok-survey.survey in
    lines_cut _ _ _ refl _ _ _ _ _ _
    (surveyed _ _ (g.S.Source.state c.args.input.now).remaining survey _ c.in_ok-survey.ensures.answer
    c.status_of-status.ensures)
    c.in_ok-survey.ensures.left c.in_ok-survey.ensures.failures _ _
    (rw (c.as_slice.ensures.value, c.survey_items.ensures.items) at c.in-Err.ensures)

pub returns-in_err-survey : goal.returns-in_err-survey
returns-in_err-survey g c =
    let failed = err_from_is_err_and c.from_residual.result c.from_residual.ensures.1 in
    let told = (g.S.Source.state c.args.input.now).remaining in
    let e = c.in_err-survey.ensures in
    rw (failed.1, failed.2)
    (lines_refused _ (Survey c.args.profile c.args.terminals) refl _ c.in_err-survey.field-0.0 _ _
    (refused_if (SurveyGives (count_of c.args.profile) c.args.terminals) told _ c.in_err-survey.field-0.0 (λ bytes f is. (refl, is))
    e.answer (λ is. e.unread (rw is refl)))
    (grown _ _ told c.in_err-survey.field-0.0 _ _ e.memory refl refl) e.left e.failures)
