use Rattle.std.proofs.Common.{ℕ, [], ◌++◌, ◌∙◌, take}
use Rattle.sixel_ppm.specs.PpmHeader.{header_on}
use Rattle.sixel_ppm.proofs.PpmReadLemmas.{answered, header_fault_counts, header_goes_on, header_refused}
use Rattle.sixel_ppm.proofs.PpmReadLemmas.{header_started, header_unread, kept_by}
use Rattle.sixel_ppm.proofs.ppm.read.read_header.Goals as goal

pub loop-count-preserved : goal.loop-count-preserved
loop-count-preserved g c =
    let i = c.loop-count.invariant in
    let filled = answered _ _ _ _ c.in_ok-count.was c.map_err.ensures.cases in
    let bytes = rw filled at c.fill.ensures.bytes in
    let failures = rw filled at c.fill.ensures.failures in (
      header_goes_on _ _ _ c.loop-count.progress c.in-More.next (take c.in_ok-count.count c.fill.new.piece) i.0
          bytes.0 c.in-More.ensures,
      failures ∙ i.1,
    )

pub returns-in-Whole-clause-started : goal.returns-in-Whole-clause-started
returns-in-Whole-clause-started g c =
    let filled = answered _ _ _ _ c.in_ok-count.was c.map_err.ensures.cases in
    let bytes = rw filled at c.fill.ensures.bytes in
    let bound = rw filled at c.fill.ensures.bound in
    header_started _ _ _ c.loop-count.progress c.in-Whole.header c.fill.new.piece c.in-Whole.start c.in_ok-count.count
    c.loop-count.invariant.0
    bytes.0 c.in-Whole.ensures bound

pub returns-in-Refused-clause-failures : goal.returns-in-Refused-clause-failures
returns-in-Refused-clause-failures g c =
    let filled = answered _ _ _ _ c.in_ok-count.was c.map_err.ensures.cases in
    let failures = rw filled at c.fill.ensures.failures in
    header_fault_counts ℕ c.in-Refused.fault
    (header_on c.loop-count.progress (take c.in_ok-count.count c.fill.new.piece ++ [])) _ _ (c.in-Refused.ensures [])
    (failures ∙ c.loop-count.invariant.1)

pub returns-in_err-count-clause-unread : goal.returns-in_err-count-clause-unread
returns-in_err-count-clause-unread g c = λ is registers.
    header_unread _ _ _ c.loop-count.progress c.loop-count.invariant.0
    (kept_by _ _ _ _ _ _ c.in_err-count.was c.map_err.ensures.cases c.fill.ensures.bytes) registers

pub returns-in-Refused-clause-failed : goal.returns-in-Refused-clause-failed
returns-in-Refused-clause-failed g c =
    let filled = answered _ _ _ _ c.in_ok-count.was c.map_err.ensures.cases in
    let bytes = rw filled at c.fill.ensures.bytes in
    header_refused _ _ _ c.loop-count.progress c.in-Refused.fault (take c.in_ok-count.count c.fill.new.piece)
    c.loop-count.invariant.0 bytes.0 c.in-Refused.ensures
