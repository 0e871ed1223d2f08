use Rattle.std.proofs.Common.{ap, length, arith}
use Rattle.sixel_judge.proofs.GrowthLemmas.{err_says}
use Rattle.sixel_scan.proofs.TellLemmas.{grows_some, marks_some, reading_counts, tells_some}
use Rattle.sixel_scan.proofs.scan.Scan.read_some.Goals as goal

pub read_some-requires-clause-stands : goal.read_some-requires-clause-stands
read_some-requires-clause-stands c = let t = c.requires.reads in (t.0, t.2.read, t.2.stands)

pub read_some-requires-clause-room : goal.read_some-requires-clause-room
read_some-requires-clause-room c =
    let t = c.requires.reads in
    omega (arith, reading_counts t.2, t.2.within, ap length c.as_slice.ensures)

pub returns-in_err-step-clause-memory : goal.returns-in_err-step-clause-memory
returns-in_err-step-clause-memory c =
    err_says _ c.from_residual.result
    (λ told bytes r. grows_some r (rw c.as_slice.ensures at (c.in_err-step.ensures.memory told r.read r.stands)))

pub returns-clause-tells : goal.returns-clause-tells
returns-clause-tells c = λ told bytes r. tells_some _ c.in_ok-step.step.count c.pass.ensures r
    (rw c.as_slice.ensures at (c.in_ok-step.ensures.reports told r.read r.stands))
    (rw c.as_slice.ensures at (c.in_ok-step.ensures.marks r.read r.knows))

pub returns-clause-marked : goal.returns-clause-marked
returns-clause-marked c = λ told bytes r. marks_some c.in_ok-step.step.count r
    (rw c.as_slice.ensures at (c.in_ok-step.ensures.marks r.read r.knows))
