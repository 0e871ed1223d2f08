use Rattle.std.proofs.Common.{◌≡◌, ap, arith}
use Rattle.std.proofs.lemmas.Result.{err_from_is_err_and}
use Rattle.sixel_io.proofs.SinkLemmas.{through-done, through-next, through-none, through-steps, through-whole}
use Rattle.sixel_sheet.specs.Sheets.{grey_pixels}
use Rattle.sixel_sheet.proofs.SheetLemmas.{grey_step, greys_next, samples}
use Rattle.sixel_sheet.proofs.sheet.put_greys.Goals as goal

pub loop-init : goal.loop-init
loop-init g c = through-none

pub loop-preserved : goal.loop-preserved
loop-preserved g c =
    through-next (greys_next c.loop.counter) c.loop.invariant (through-whole _ c.in_ok-put.ensures)

pub returns-in_err-put : goal.returns-in_err-put
returns-in_err-put g c =
    let failed = err_from_is_err_and c.from_residual.result c.from_residual.ensures.1 in
    rw failed.1
    (through-steps (λ n. samples (grey_pixels n)) grey_step greys_next c.loop.counter c.args.count (omega arith)
    c.loop.invariant (through-whole _ c.in_err-put.ensures))

pub returns : goal.returns
returns g c =
    let all : c.loop.counter ≡ c.args.count = omega arith in
    through-done (ap (λ n. samples (grey_pixels n)) all) c.loop.invariant
