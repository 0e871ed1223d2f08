use Rattle.std.proofs.lemmas.Result.{err_from_is_err_and}
use Rattle.sixel_sheet.specs.Outputs.{sheet_output}
use Rattle.sixel_sheet.proofs.ViewedLemmas.{refused_if}
use Rattle.sixel_sheet.proofs.differ_sheet.differ_sheet.Goals as goal

pub returns-in_err-views-clause-wrote : goal.returns-in_err-views-clause-wrote
returns-in_err-views-clause-wrote g c =
    let failed = err_from_is_err_and c.from_residual.result c.from_residual.ensures.1 in
    rw (failed.1, failed.2)
    (refused_if sheet_output c.args.background (g.S.Source.state c.args.input.now).remaining _
    c.in_err-views.field-0.0 c.in_err-views.ensures.refused)
