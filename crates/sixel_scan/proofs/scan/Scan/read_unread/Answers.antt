use Rattle.std.proofs.Common.{◌∙◌, arith, sym}
use Rattle.sixel_judge.proofs.GrowthLemmas.{err_says}
use Rattle.sixel_scan.proofs.TellLemmas.{grows_as, tells_none, tells_nothing, told_none}
use Rattle.sixel_scan.proofs.scan.Scan.read_unread.Goals as goal

pub read_some-requires-clause-reads : goal.read_some-requires-clause-reads
read_some-requires-clause-reads c =
    let t = c.requires.reads in (t.0, t.1, c.loop-self.invariant.reads t.0 t.1 t.2)

pub returns-in_err-scanned-clause-memory : goal.returns-in_err-scanned-clause-memory
returns-in_err-scanned-clause-memory c =
    let i = c.loop-self.invariant in
    err_says _ c.from_residual.result
    (λ told bytes r.
    grows_as c.args.self.now c.loop-self.self told bytes i.profile i.eight
    (c.in_err-scanned.ensures.memory told bytes (i.reads told bytes r)))

pub returns-then-is_some-clause-tells : goal.returns-then-is_some-clause-tells
returns-then-is_some-clause-tells c = λ told bytes r.
    c.in_ok-scanned.ensures.tells told bytes (c.loop-self.invariant.reads told bytes r)

pub loop-self-preserved : goal.loop-self-preserved
loop-self-preserved c =
    let i = c.loop-self.invariant in
    let e = c.in_ok-scanned.ensures in
    record {
      reads = λ told bytes r.
          tells_nothing (told_none c.in_ok-scanned.scanned (sym c.is_some.ensures ∙ c.if-is_some.false)
          (e.tells told bytes (i.reads told bytes r)));
      less = omega (arith, i.less, e.less);
      profile = e.profile ∙ i.profile;
      eight = e.eight ∙ i.eight;
      ended = e.ended ∙ i.ended;
    }

pub returns-clause-tells : goal.returns-clause-tells
returns-clause-tells c = λ told bytes r. tells_none (c.loop-self.invariant.reads told bytes r)

pub returns-then-is_some-clause-marked : goal.returns-then-is_some-clause-marked
returns-then-is_some-clause-marked c = λ told bytes r.
    c.in_ok-scanned.ensures.marked told bytes (c.loop-self.invariant.reads told bytes r)
