use Rattle.std.proofs.Common.{◌≡◌, ap, arith}
use Rattle.std.specs.List.{flat_map, range_with_len}
use Rattle.std.proofs.lemmas.Result.{err_from_is_err_and}
use Rattle.sixel_io.proofs.SinkLemmas.{through-done, through-next, through-none, through-steps}
use Rattle.sixel_sheet.specs.Sheets.{sheet_row}
use Rattle.sixel_sheet.proofs.SheetLemmas.{rows_next, samples}
use Rattle.sixel_sheet.proofs.sheet.put_rows.Goals as goal

pub loop-row-init : goal.loop-row-init
loop-row-init g c = through-none

pub loop-row-preserved : goal.loop-row-preserved
loop-row-preserved g c =
    through-next (rows_next c.args.views.now c.loop-row.row) c.loop-row.invariant c.in_ok-put_row.ensures

pub returns-in_err-put_row : goal.returns-in_err-put_row
returns-in_err-put_row g c =
    let v = c.args.views.now in
    let failed = err_from_is_err_and c.from_residual.result c.from_residual.ensures.1 in
    rw failed.1
    (through-steps (λ n. samples (flat_map (sheet_row v) (range_with_len 0 n))) (λ n. samples (sheet_row v n))
    (rows_next v) c.loop-row.row v.height (omega arith) c.loop-row.invariant c.in_err-put_row.ensures)

pub returns : goal.returns
returns g c =
    let v = c.args.views.now in
    let all : c.loop-row.row ≡ v.height = omega arith in
    through-done (ap (λ n. samples (flat_map (sheet_row v) (range_with_len 0 n))) all) c.loop-row.invariant
