use Rattle.std.proofs.Common.{refl}
use Rattle.std.proofs.lemmas.Result.{err_from_is_err_and}
use Rattle.sixel_run.proofs.ScanLemmas.{scan_ends, scanning_first, scanning_more, scanning_ready, scans_ended}
use Rattle.sixel_run.proofs.ScanLemmas.{scans_failed, scans_stopped}
use Rattle.sixel_run.proofs.running.scan.scan.Goals as goal

pub loop-scan-init : goal.loop-scan-init
loop-scan-init g c = scanning_first _ _ _ _ _ _ c.new-scan.ensures

pub next_string-requires : goal.next_string-requires
next_string-requires g c = scanning_ready _ _ _ _ _ _ _ c.loop-scan.invariant

pub loop-scan-preserved : goal.loop-scan-preserved
loop-scan-preserved g c =
    let told = rw c.in-Some.is at c.in_ok-found.ensures.told in
    let put = c.in-Ok.ensures.taken in
    let marks = rw c.in-Some.is at c.in_ok-found.ensures.marked in
    scanning_more _ _ _ _ _ _ _ _ _ _ _ _ c.loop-scan.invariant told marks put
    c.in_ok-found.ensures.failures c.in-Ok.ensures.failures c.with_string-answer.ensures

pub returns-in-Err : goal.returns-in-Err
returns-in-Err g c =
    let told = rw c.in-Some.is at c.in_ok-found.ensures.told in
    let marks = rw c.in-Some.is at c.in_ok-found.ensures.marked in
    let put = c.in-Err.ensures.taken in
    scan_ends _ _ _ _ _ _
    (scans_stopped _ _ _ _ _ _ _ _ _ _ _ c.loop-scan.invariant told marks put
    c.in_ok-found.ensures.failures c.in-Err.ensures.failures)

pub returns-in-None : goal.returns-in-None
returns-in-None g c =
    let told = rw c.in-None.is at c.in_ok-found.ensures.told in
    scan_ends _ _ _ _ _ _
    (scans_ended _ _ _ _ _ _ _ _ _ c.loop-scan.invariant told (c.in_ok-found.ensures.all (rw c.in-None.is refl))
    c.in_ok-found.ensures.failures)

pub returns-in_err-found : goal.returns-in_err-found
returns-in_err-found g c =
    let failed = err_from_is_err_and c.from_residual.result c.from_residual.ensures.1 in
    rw (failed.1, failed.2)
    (scan_ends _ _ _ _ _ _
    (scans_failed _ _ _ _ _ _ _ _ _ c.in_err-found.field-0.0 c.loop-scan.invariant c.in_err-found.ensures.read
    c.in_err-found.ensures.memory c.in_err-found.ensures.failures))
