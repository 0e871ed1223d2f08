use Rattle.std.proofs.Common.{refl}
use Rattle.std.proofs.lemmas.Result.{err_from_is_err_and}
use Rattle.sixel_io.proofs.SinkLemmas.{writes-cut, writes-then}
use Rattle.sixel_messages.proofs.saying.put_refusal.Goals as goal

pub returns-in_err-put_fault : goal.returns-in_err-put_fault
returns-in_err-put_fault g c =
    let failed = err_from_is_err_and c.from_residual.result c.from_residual.ensures.1 in
    rw failed.1 (writes-cut _ refl c.in_err-put_fault.ensures)

pub returns : goal.returns
returns g c =
    writes-then c.put_all.result refl c.in_ok-put_fault.ensures
    (rw (c.as_bytes.ensures.value, c.advice.ensures.text) at c.put_all.ensures)
