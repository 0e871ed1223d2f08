use Rattle.std.proofs.Common.{ℕ, ◌≡◌, ◌<◌, ◌∙◌, length, refl, take, arith}
use Rattle.std.proofs.lemmas.Result.{err_from_is_err_and}
use Rattle.sixel_grammar.proofs.SourceLemmas.{take_none}
use Rattle.sixel_ppm.proofs.PpmReadLemmas.{answered, holds_on, in_samples_still, kept_by, never_read}
use Rattle.sixel_ppm.proofs.PpmReadLemmas.{samples_begin, samples_fault_counts, samples_finished, samples_go_on}
use Rattle.sixel_ppm.proofs.PpmReadLemmas.{samples_refused, samples_unread}
use Rattle.sixel_ppm.proofs.ppm.read.read_samples.Goals as goal

pub loop-samples-init : goal.loop-samples-init
loop-samples-init g c = (samples_begin _ c.args.begun, refl)

pub returns-then-count-eq0-clause-bytes : goal.returns-then-count-eq0-clause-bytes
returns-then-count-eq0-clause-bytes g c =
    let filled = answered _ _ _ _ c.in_ok-count.was c.map_err.ensures.cases in
    let bytes = rw filled at c.fill.ensures.bytes in
    let zero : c.in_ok-count.count ≡ 0 = omega (arith, c.if-count-eq0.true) in
    let room : 0 < length c.fill.new.piece = omega arith in
    samples_finished _ _ c.args.begun c.loop-samples.samples c.finish.result
    (in_samples_still _ _ _ c.args.begun c.loop-samples.samples (take c.in_ok-count.count c.fill.new.piece)
    (take_none c.in_ok-count.count c.fill.new.piece zero) c.loop-samples.invariant.0 bytes.0)
    (bytes.1 zero room) c.finish.ensures.whole c.finish.ensures.failed

pub returns-in_err-feed-clause-bytes : goal.returns-in_err-feed-clause-bytes
returns-in_err-feed-clause-bytes g c =
    let filled = answered _ _ _ _ c.in_ok-count.was c.map_err.ensures.cases in
    let bytes = rw filled at c.fill.ensures.bytes in
    let exit = c.from_residual-in_err-feed in
    let failed = err_from_is_err_and exit.result exit.ensures.1 in
    rw (failed.1, failed.2)
    (samples_refused _ _ _ c.args.begun c.loop-samples.samples _
    (take c.in_ok-count.count c.fill.new.piece) c.loop-samples.invariant.0
    bytes.0 c.in_err-feed.ensures.failed)

pub returns-in_err-feed-clause-failures : goal.returns-in_err-feed-clause-failures
returns-in_err-feed-clause-failures g c =
    let filled = answered _ _ _ _ c.in_ok-count.was c.map_err.ensures.cases in
    let failures = rw filled at c.fill.ensures.failures in
    let exit = c.from_residual-in_err-feed in
    let failed = err_from_is_err_and exit.result exit.ensures.1 in
    rw (failed.1, failed.2)
    (samples_fault_counts ℕ c.loop-samples.samples _ (take c.in_ok-count.count c.fill.new.piece) _ _
    (holds_on _ _ c.args.begun c.loop-samples.samples c.loop-samples.invariant.0 c.requires)
    c.in_err-feed.ensures.failed
    (failures ∙ c.loop-samples.invariant.1))

pub loop-samples-preserved : goal.loop-samples-preserved
loop-samples-preserved g c =
    let filled = answered _ _ _ _ c.in_ok-count.was c.map_err.ensures.cases in
    let bytes = rw filled at c.fill.ensures.bytes in
    let failures = rw filled at c.fill.ensures.failures in (
      samples_go_on _ _ _ c.args.begun c.loop-samples.samples c.feed.new.self
          (take c.in_ok-count.count c.fill.new.piece)
          c.loop-samples.invariant.0
          bytes.0 c.in_ok-feed.ensures.read,
      failures ∙ c.loop-samples.invariant.1,
    )

pub returns-in_err-count-clause-unread : goal.returns-in_err-count-clause-unread
returns-in_err-count-clause-unread g c = λ is.
    samples_unread _ _ _ c.args.begun c.loop-samples.samples c.loop-samples.invariant.0
    c.loop-samples.samples.partial_is_good
    (kept_by _ _ _ _ _ _ c.in_err-count.was c.map_err.ensures.cases c.fill.ensures.bytes)

pub returns-in_err-feed-clause-unread : goal.returns-in_err-feed-clause-unread
returns-in_err-feed-clause-unread g c = λ is.
    let exit = c.from_residual-in_err-feed in
    let failed = err_from_is_err_and exit.result exit.ensures.1 in
    never_read c.loop-samples.samples c.in_err-feed.field-0.0 (take c.in_ok-count.count c.fill.new.piece)
    (holds_on _ _ c.args.begun c.loop-samples.samples c.loop-samples.invariant.0 c.requires)
    c.in_err-feed.ensures.failed (cc (is, failed.1, failed.2))
