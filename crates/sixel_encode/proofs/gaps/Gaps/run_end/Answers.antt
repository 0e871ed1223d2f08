use Rattle.std.proofs.Common.{◌≢◌, arith, get_or, length}
use Rattle.sixel_encode.proofs.GapItemLemmas.{few_items}
use Rattle.sixel_encode.proofs.GapRunLemmas.{blank_run, ink_run, last_run, other_run}
use Rattle.sixel_encode.proofs.gaps.Gaps.run_end.Goals as goal
use Rattle.sixel_encode.proofs.gaps.Gaps.run_end.Goals.{else-self-via-then-self+else-byte-eq63, else-self-via-else-self}

pub end_of-requires : goal.end_of-requires
end_of-requires c =
    let are = c.requires.ends c.if-self.true in
    omega (
      arith,
      few_items c.args.self.now.count (length c.args.sixels.now) are.items are.before,
      are.items.long,
      c.requires.few,
    )

pub returns-then-byte-eq63-clause-run : goal.returns-then-byte-eq63-clause-run
returns-then-byte-eq63-clause-run c =
    (blank_run c.end_of.result c.requires.repeat c.requires.apart (c.requires.ends c.if-self.true)
    (c.requires.next c.if-self.true) c.if-byte-eq63.true c.end_of.ensures).0

pub returns-then-byte-eq63-clause-next : goal.returns-then-byte-eq63-clause-next
returns-then-byte-eq63-clause-next c = λ listed.
    (blank_run c.end_of.result c.requires.repeat c.requires.apart (c.requires.ends listed) (c.requires.next listed)
    c.if-byte-eq63.true c.end_of.ensures).1

pub returns-then-byte-eq63-clause-small : goal.returns-then-byte-eq63-clause-small
returns-then-byte-eq63-clause-small c =
    let run = blank_run c.end_of.result c.requires.repeat c.requires.apart (c.requires.ends c.if-self.true)
    (c.requires.next c.if-self.true) c.if-byte-eq63.true c.end_of.ensures in
    omega (arith, run.0.some, c.requires.small)

pub returns-in-Some-clause-next : goal.returns-in-Some-clause-next
returns-in-Some-clause-next c = λ listed.
    let ink : get_or c.args.sixels.now c.args.start 0 ≢ 63 = elim c.else-self.branch [
      | else-self-via-then-self+else-byte-eq63 w ↦ w.if-byte-eq63.false
      | else-self-via-else-self w ↦ cc (listed, w.if-self.false)
    ] in
    ink_run c.requires.repeat c.requires.apart (c.requires.ends listed) (c.requires.next listed) ink
    (other_run c.args.start c.in-Some.ensures)

pub returns-in-None-clause-next : goal.returns-in-None-clause-next
returns-in-None-clause-next c = λ listed.
    let ink : get_or c.args.sixels.now c.args.start 0 ≢ 63 = elim c.else-self.branch [
      | else-self-via-then-self+else-byte-eq63 w ↦ w.if-byte-eq63.false
      | else-self-via-else-self w ↦ cc (listed, w.if-self.false)
    ] in
    ink_run c.requires.repeat c.requires.apart (c.requires.ends listed) (c.requires.next listed) ink
    (last_run c.args.start c.args.sixels.now (omega (arith, c.requires.repeat.within)) c.in-None.ensures)
