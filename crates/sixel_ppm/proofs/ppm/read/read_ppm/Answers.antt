use Rattle.std.proofs.Common.{ℕ, []}
use Rattle.std.proofs.lemmas.Result.{err_from_is_err_and}
use Rattle.sixel_ppm.proofs.PpmReadLemmas.{between, ppm_finished, ppm_refused, ppm_unread, samples_fault_counts}
use Rattle.sixel_ppm.proofs.PpmReadLemmas.{started_scaled, started_sides, started_within}
use Rattle.sixel_ppm.proofs.ppm.read.read_ppm.Goals as goal

pub new-requires-clause-sides : goal.new-requires-clause-sides
new-requires-clause-sides g c = started_sides _ _ _ c.in_ok-started.started c.in_ok-started.ensures.started

pub new-requires-clause-scaled : goal.new-requires-clause-scaled
new-requires-clause-scaled g c = started_scaled _ _ _ c.in_ok-started.started c.in_ok-started.ensures.started

pub new-requires-clause-place : goal.new-requires-clause-place
new-requires-clause-place g c = started_within _ _ _ c.in_ok-started.started c.in_ok-started.ensures.started

pub returns-in_err-feed-clause-bytes : goal.returns-in_err-feed-clause-bytes
returns-in_err-feed-clause-bytes g c =
    let exit = c.from_residual-in_err-feed in
    let failed = err_from_is_err_and exit.result exit.ensures.1 in
    rw (failed.1, failed.2)
    (ppm_refused _ _ _ c.read_header.new.piece c.in_ok-started.started c.in_ok-samples.samples _ _
    (between c.in_ok-started.started.start c.in_ok-started.started.end c.read_header.new.piece
    c.in_ok-started.ensures.started.ordered)
    c.in_ok-started.ensures.started c.in_ok-samples.ensures
    c.in_err-feed.ensures.failed)

pub returns-in_err-feed-clause-failures : goal.returns-in_err-feed-clause-failures
returns-in_err-feed-clause-failures g c =
    let exit = c.from_residual-in_err-feed in
    let failed = err_from_is_err_and exit.result exit.ensures.1 in
    rw (failed.1, failed.2)
    (samples_fault_counts ℕ c.in_ok-samples.samples _ _ _ _ ([], c.in_ok-samples.ensures.holds)
    c.in_err-feed.ensures.failed
    c.in_ok-started.ensures.failures)

pub read_samples-requires : goal.read_samples-requires
read_samples-requires g c =
    let p = c.in_ok-feed.ensures.read [] c.in_ok-samples.ensures.holds in
    (p.0, p.1)

pub returns-clause-bytes : goal.returns-clause-bytes
returns-clause-bytes g c =
    ppm_finished _ _ _ c.read_header.new.piece c.in_ok-started.started c.in_ok-samples.samples c.feed.new.self
    c.read_samples.result _
    (between c.in_ok-started.started.start c.in_ok-started.started.end c.read_header.new.piece
    c.in_ok-started.ensures.started.ordered)
    c.in_ok-started.ensures.started
    c.in_ok-samples.ensures c.in_ok-feed.ensures.read c.read_samples.ensures.bytes

pub returns-clause-failures : goal.returns-clause-failures
returns-clause-failures g c = rw c.in_ok-started.ensures.failures at c.read_samples.ensures.failures

pub returns-clause-unread : goal.returns-clause-unread
returns-clause-unread g c = λ is.
    ppm_unread _ _ _ _ c.read_header.new.piece c.in_ok-started.started c.in_ok-samples.samples c.feed.new.self _
    (between c.in_ok-started.started.start c.in_ok-started.started.end c.read_header.new.piece
    c.in_ok-started.ensures.started.ordered)
    c.in_ok-started.ensures.started
    c.in_ok-samples.ensures c.in_ok-feed.ensures.read (c.read_samples.ensures.unread is)
