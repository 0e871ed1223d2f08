use Rattle.std.proofs.Common.{refl}
use Rattle.std.proofs.lemmas.Result.{err_from_is_err_and}
use Rattle.sixel_differ.specs.declared.view.Views.{Views}
use Rattle.sixel_report.specs.Differing.{differ_items, differ_status}
use Rattle.sixel_report.specs.declared.task.Task.TheVariants.{Differ}
use Rattle.sixel_run.proofs.DifferLinesLemmas.{differ_gives, differ_refused, reads_on}
use Rattle.sixel_run.proofs.LineTaskLemmas.{lines_cut, lines_put}
use Rattle.sixel_run.proofs.running.differ.differ.Goals as goal

pub returns-in_err-views : goal.returns-in_err-views
returns-in_err-views g c =
    let failed = err_from_is_err_and c.from_residual.result c.from_residual.ensures.1 in
    let e = c.in_err-views.ensures in
    rw (failed.1, failed.2)
    (differ_refused _ c.args.background _ c.in_err-views.field-0.0 _ _ e.refused
    (λ is. e.unwritten (rw is refl)) (λ is. e.unread (rw is refl)) e.left e.reads)

pub returns-in-Ok : goal.returns-in-Ok
returns-in-Ok g c =
    let views = c.in_ok-views.views in
    let comparison = c.compare-comparison.result in
    rw c.differ_status.ensures
    (lines_put Views views (Differ c.args.background) refl _ (differ_items views.width views.height comparison)
    (differ_status comparison) _ _ _
    (differ_gives c.args.background (g.S.Source.state c.args.input.now).remaining views comparison
    c.in_ok-views.ensures.views c.compare-comparison.ensures)
    (reads_on Views views _ _ c.in_ok-views.ensures.left) c.in_ok-views.ensures.reads _ _
    (rw (c.as_slice.ensures.value, c.differ_items-items.ensures.items) at c.in-Ok.ensures))

pub returns : goal.returns
returns g c =
    let views = c.in_ok-views.views in
    let comparison = c.compare-comparison.result in
    lines_cut Views views (Differ c.args.background) refl _ (differ_items views.width views.height comparison)
    (differ_status comparison) _ _ _
    (differ_gives c.args.background (g.S.Source.state c.args.input.now).remaining views comparison
    c.in_ok-views.ensures.views c.compare-comparison.ensures)
    (reads_on Views views _ _ c.in_ok-views.ensures.left) c.in_ok-views.ensures.reads _ _
    (rw (c.as_slice.ensures.value, c.differ_items-items.ensures.items) at c.in-Err.ensures)
