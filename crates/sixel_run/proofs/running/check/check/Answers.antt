use Rattle.std.proofs.Common.{[], ◌∷◌, refl, sym}
use Rattle.std.proofs.lemmas.List.{append-nil}
use Rattle.std.proofs.lemmas.Result.{err_from_is_err_and}
use Rattle.sixel_io.proofs.SinkLemmas.{writes-as}
use Rattle.sixel_model.specs.Profiles.{count_of}
use Rattle.sixel_report.specs.declared.task.Task.TheVariants.{Check}
use Rattle.sixel_run.specs.Outputs.{CheckGives, outcome_status}
use Rattle.sixel_report.specs.Texts.{item_of}
use Rattle.sixel_run.proofs.CheckLemmas.{checked, grown}
use Rattle.sixel_run.proofs.LineTaskLemmas.{lines_cut, lines_put, lines_refused, refused_if}
use Rattle.sixel_run.proofs.running.check.check.Goals as goal

pub returns-in-Ok : goal.returns-in-Ok
returns-in-Ok g c =
    let outcome = c.in_ok-outcome.outcome in
    rw c.status_of.ensures
    (lines_put _ _ _ refl _ (item_of outcome ∷ []) (outcome_status outcome) _ _ _
    (checked _ _ (g.S.Source.state c.args.input.now).remaining outcome c.in_ok-outcome.ensures.answer)
    c.in_ok-outcome.ensures.left
    c.in_ok-outcome.ensures.failures _ _
    (writes-as (sym (append-nil _)) (rw c.item_of.ensures at c.in-Ok.ensures)))

pub returns-in-Err : goal.returns-in-Err
returns-in-Err g c =
    let outcome = c.in_ok-outcome.outcome in
    lines_cut _ _ _ refl _ (item_of outcome ∷ []) (outcome_status outcome) _ _ _
    (checked _ _ (g.S.Source.state c.args.input.now).remaining outcome c.in_ok-outcome.ensures.answer)
    c.in_ok-outcome.ensures.left
    c.in_ok-outcome.ensures.failures _ _
    (writes-as (sym (append-nil _)) (rw c.item_of.ensures at c.in-Err.ensures))

pub returns-in_err-outcome : goal.returns-in_err-outcome
returns-in_err-outcome g c =
    let failed = err_from_is_err_and c.from_residual.result c.from_residual.ensures.1 in
    let told = (g.S.Source.state c.args.input.now).remaining in
    let e = c.in_err-outcome.ensures in
    rw (failed.1, failed.2)
    (lines_refused _ (Check c.args.profile c.args.terminals) refl _ c.in_err-outcome.field-0.0 _ _
    (refused_if (CheckGives (count_of c.args.profile) c.args.terminals) told _ c.in_err-outcome.field-0.0 (λ bytes f is. (refl, is))
    e.answer (λ is. e.unread (rw is refl)))
    (grown _ _ told c.in_err-outcome.field-0.0 _ _ e.memory refl refl) e.left e.failures)
