use Rattle.std.proofs.lemmas.Result.{err_from_is_err_and}
use Rattle.sixel_io.proofs.SinkLemmas.{through-cut, through-then}
use Rattle.sixel_sheet.specs.Sheets.{row_of}
use Rattle.sixel_sheet.proofs.SheetLemmas.{next_samples, samples}
use Rattle.sixel_sheet.proofs.sheet.put_next.Goals as goal

pub returns-in_err-put_greys : goal.returns-in_err-put_greys
returns-in_err-put_greys g c =
    let failed = err_from_is_err_and c.from_residual.result c.from_residual.ensures.1 in
    rw failed.1
    (through-cut (samples (row_of c.args.width c.args.row c.args.view.now))
    (next_samples c.args.width c.args.row c.args.view.now) c.in_err-put_greys.ensures)

pub returns : goal.returns
returns g c =
    through-then c.put_view.result (next_samples c.args.width c.args.row c.args.view.now) c.in_ok-put_greys.ensures
    c.put_view.ensures
