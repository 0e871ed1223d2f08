use Rattle.std.proofs.lemmas.Result.{err_from_is_err_and}
use Rattle.sixel_io.proofs.SinkLemmas.{through-drained, through-failed}
use Rattle.sixel_encode.proofs.writing.write_picture.Goals as goal

pub returns-in_err-put_text-clause-written : goal.returns-in_err-put_text-clause-written
returns-in_err-put_text-clause-written g c =
    let failed = err_from_is_err_and c.from_residual.result c.from_residual.ensures.1 in
    rw failed.1 (through-failed c.new-text.ensures c.in_err-put_text.ensures.put)

pub returns-clause-written : goal.returns-clause-written
returns-clause-written g c =
    through-drained c.drain.result c.new-text.ensures c.in_ok-put_text.ensures.waits c.in_ok-put_text.ensures.put
    c.drain.ensures
