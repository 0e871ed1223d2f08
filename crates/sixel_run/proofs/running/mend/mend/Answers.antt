use Rattle.std.proofs.lemmas.Result.{err_from_is_err_and}
use Rattle.sixel_model.specs.Profiles.{count_of}
use Rattle.sixel_run.proofs.MendLemmas.{measured_grown, measured_refused, measured_sized, mend_grown, mend_refused}
use Rattle.sixel_run.proofs.MendLemmas.{mend_sized, mend_unfit, mend_unread, mend_unwritten, mend_written}
use Rattle.sixel_run.proofs.running.mend.mend.Goals as goal

pub returns-in_err-kept-clause-wrote : goal.returns-in_err-kept-clause-wrote
returns-in_err-kept-clause-wrote g c =
    let failed = err_from_is_err_and c.from_residual.result c.from_residual.ensures.1 in
    rw (failed.1, failed.2)
    (mend_unread _ c.args.mending.now c.args.fitting (g.S.Source.state c.args.input.now).remaining c.in_err-kept.field-0.0 _
    c.in_err-kept.ensures.refused)

pub returns-in_err-mended-clause-wrote : goal.returns-in_err-mended-clause-wrote
returns-in_err-mended-clause-wrote g c =
    let exit = c.from_residual-in_err-mended in
    let failed = err_from_is_err_and exit.result exit.ensures.1 in
    rw (failed.1, failed.2)
    (mend_refused (count_of c.args.profile) c.args.mending.now c.args.fitting (g.S.Source.state c.args.input.now).remaining c.deref.result.now
    c.in_err-mended.field-0.0 _ (rw c.deref.ensures.value (rw c.in-Some.is at c.in_ok-kept.ensures.read)) c.in_err-mended.ensures)

pub returns-in_err-fitted-clause-wrote : goal.returns-in_err-fitted-clause-wrote
returns-in_err-fitted-clause-wrote g c =
    let exit = c.from_residual-in_err-fitted in
    let failed = err_from_is_err_and exit.result exit.ensures.1 in
    rw (failed.1, failed.2)
    (mend_unfit (count_of c.args.profile) c.args.mending.now c.args.fitting
    (g.S.Source.state c.args.input.now).remaining c.deref.result.now c.in_ok-mended.mended c.in_err-fitted.field-0.0 _
    (rw c.deref.ensures.value (rw c.in-Some.is at c.in_ok-kept.ensures.read)) c.in_ok-mended.ensures
    c.in_err-fitted.ensures)

pub returns-in_err-fitted-clause-memory : goal.returns-in_err-fitted-clause-memory
returns-in_err-fitted-clause-memory g c = λ is.
    mend_sized (count_of c.args.profile) c.args.mending.now (g.S.Source.state c.args.input.now).remaining
    c.deref.result.now c.in_ok-mended.mended
    (rw c.deref.ensures.value (rw c.in-Some.is at c.in_ok-kept.ensures.read)) c.in_ok-mended.ensures

pub returns-in-Ok-clause-wrote : goal.returns-in-Ok-clause-wrote
returns-in-Ok-clause-wrote g c =
    rw c.status_of.ensures
    (mend_written (count_of c.args.profile) c.args.mending.now c.args.fitting
    (g.S.Source.state c.args.input.now).remaining c.deref.result.now c.in_ok-mended.mended c.in_ok-fitted.fitted _ _
    (rw c.deref.ensures.value (rw c.in-Some.is at c.in_ok-kept.ensures.read)) c.in_ok-mended.ensures
    c.in_ok-fitted.ensures c.in-Ok.ensures.written.taken)

pub returns-clause-wrote : goal.returns-clause-wrote
returns-clause-wrote g c =
    mend_unwritten (count_of c.args.profile) c.args.mending.now c.args.fitting
    (g.S.Source.state c.args.input.now).remaining c.deref.result.now c.in_ok-mended.mended c.in_ok-fitted.fitted _ _
    (rw c.deref.ensures.value (rw c.in-Some.is at c.in_ok-kept.ensures.read)) c.in_ok-mended.ensures
    c.in_ok-fitted.ensures c.in-Err.ensures.written.taken

pub returns-in_err-mended-clause-memory : goal.returns-in_err-mended-clause-memory
returns-in_err-mended-clause-memory g c = λ is.
    let exit = c.from_residual-in_err-mended in
    let failed = err_from_is_err_and exit.result exit.ensures.1 in
    mend_grown (count_of c.args.profile) c.args.mending.now (g.S.Source.state c.args.input.now).remaining
    c.deref.result.now
    c.in_err-mended.field-0.0 (rw c.deref.ensures.value (rw c.in-Some.is at c.in_ok-kept.ensures.read))
    c.in_err-mended.ensures (cc (failed.1, failed.2, is))

pub returns-in_err-size_of-clause-wrote : goal.returns-in_err-size_of-clause-wrote
returns-in_err-size_of-clause-wrote g c =
    let exit = c.from_residual-in_err-size_of in
    let failed = err_from_is_err_and exit.result exit.ensures.1 in
    rw (failed.1, failed.2)
    (measured_refused _ c.args.mending.now c.args.fitting c.in_ok-kept.extent (g.S.Source.state c.args.input.now).remaining
    c.in_err-size_of.field-0.0 _ c.in_ok-kept.ensures.told c.in_err-size_of.ensures.refused)

pub returns-in_err-size_of-clause-memory : goal.returns-in_err-size_of-clause-memory
returns-in_err-size_of-clause-memory g c = λ is.
    let exit = c.from_residual-in_err-size_of in
    let failed = err_from_is_err_and exit.result exit.ensures.1 in
    measured_grown 0 c.args.mending.now c.in_ok-kept.extent (g.S.Source.state c.args.input.now).remaining
    c.in_err-size_of.field-0.0 c.in_ok-kept.ensures.told c.in_err-size_of.ensures.refused (cc (failed.1, failed.2, is))

pub returns-in_default-clause-memory : goal.returns-in_default-clause-memory
returns-in_default-clause-memory g c = λ is.
    measured_sized c.args.mending.now c.in_ok-kept.extent (g.S.Source.state c.args.input.now).remaining
    c.in_ok-size_of.field-0.0 c.in_ok-size_of.field-0.1 c.in_ok-kept.ensures.told c.in_ok-size_of.ensures.sides
    c.in_ok-size_of.ensures.sized
