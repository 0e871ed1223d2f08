use Rattle.std.proofs.Common.{◌≡◌, ◌∙◌, [], None, Ok, ap, arith, length, sym}
use Rattle.sixel_scan.specs.declared.scan.Scan.{Scan}
use Rattle.sixel_scan.proofs.TellLemmas.{Goes, next_all, next_failed, next_grows, next_last, next_none, next_told}
use Rattle.sixel_scan.proofs.TellLemmas.{next_marked, none_marked}
use Rattle.sixel_scan.proofs.TellLemmas.{no_string, read_past, ready_failed, ready_told, reads_later, still_on}
use Rattle.sixel_scan.proofs.TellLemmas.{still_reading, taken_past, takes_more, tells_fewer, tells_nothing, told_none}
use Rattle.sixel_scan.proofs.scan.Scan.next_string.Given.{Over}
use Rattle.sixel_scan.proofs.scan.Scan.next_string.Goals as goal
use Rattle.sixel_scan.proofs.scan.Scan.next_string.Goals.{Else-is_some, In_ok-more}

pub read_unread-requires : goal.read_unread-requires
read_unread-requires g c =
    record { reads = still_reading c.if-self.false c.loop-scanned.invariant.goes c.requires }

-- ---- the stream was over before

pub returns-then-self-clause-told : goal.returns-then-self-clause-told
returns-then-self-clause-told g c =
    next_none c.args.self.now (g.S.Source.state c.args.input.now).remaining c.if-self.true

pub returns-then-self-clause-marked : goal.returns-then-self-clause-marked
returns-then-self-clause-marked g c = none_marked c.args.self.now (g.S.Source.state c.args.input.now).remaining

-- ---- a string has ended

pub returns-in_err-scanned-clause-memory : goal.returns-in_err-scanned-clause-memory
returns-in_err-scanned-clause-memory g c = λ is.
    next_grows c.if-self.false c.loop-scanned.invariant.goes c.in_err-scanned.ensures.memory

pub returns-then-is_some-clause-told : goal.returns-then-is_some-clause-told
returns-then-is_some-clause-told g c =
    let e = c.in_ok-scanned.ensures in
    next_told c.if-self.false c.loop-scanned.invariant.goes e.profile e.eight e.ended e.tells

pub returns-then-is_some-clause-marked : goal.returns-then-is_some-clause-marked
returns-then-is_some-clause-marked g c =
    next_marked _ c.if-self.false c.loop-scanned.invariant.goes c.in_ok-scanned.ensures.marked

pub returns-then-is_some-clause-ready : goal.returns-then-is_some-clause-ready
returns-then-is_some-clause-ready g c = λ ne.
    let e = c.in_ok-scanned.ensures in
    ready_told c.requires
    (next_told c.if-self.false c.loop-scanned.invariant.goes e.profile e.eight e.ended e.tells)

pub returns-then-is_some-clause-fewer : goal.returns-then-is_some-clause-fewer
returns-then-is_some-clause-fewer g c = λ some.
    let e = c.in_ok-scanned.ensures in
    let i = c.loop-scanned.invariant in
    let t = still_reading c.if-self.false i.goes c.requires in
    tells_fewer c.args.self.now c.if-self.false (e.ended ∙ still_on c.if-self.false i.goes c.requires) i.later t.2
    (e.tells t.0 t.1 t.2).reading (e.less some)

-- ---- no string has ended

module _ (g : Over) (c : Else-is_some g) where
  past : Goes c.args.self.now (g.S.Source.state c.args.input.now).remaining c.read_unread.new.self
      (g.S.Source.state c.loop-scanned.input).remaining
  past =
      let e = c.in_ok-scanned.ensures in
      read_past c.in_ok-scanned.scanned c.loop-scanned.invariant.goes e.profile e.eight e.ended
      (sym c.is_some.ensures ∙ c.if-is_some.false) e.tells

  all_is_read : c.read_unread.new.self.unread ≡ []
  all_is_read =
      c.in_ok-scanned.ensures.all
      (ap Ok (no_string c.in_ok-scanned.scanned (sym c.is_some.ensures ∙ c.if-is_some.false)))

module _ (g : Over) (c : In_ok-more g) where
  taken : Goes c.args.self.now (g.S.Source.state c.args.input.now).remaining c.take_more.new.self
      (g.S.Source.state c.take_more.new.input).remaining
  taken =
      let e = c.in_ok-scanned.ensures in
      let m = c.in_ok-more.ensures in
      taken_past
      (read_past c.in_ok-scanned.scanned c.loop-scanned.invariant.goes e.profile e.eight e.ended
      (sym c.is_some.ensures ∙ c.if-is_some.false) e.tells)
      m.rest m.taken m.more

-- ---- the source failed

pub returns-in_err-more-clause-read : goal.returns-in_err-more-clause-read
returns-in_err-more-clause-read g c = λ is.
    let p = (goal.at.returns-in_err-more-clause-read g c).Else-is_some in
    next_failed c.if-self.false (past g p) c.in_err-more.ensures.kept (all_is_read g p) c.in_err-more.ensures.same

pub returns-in_err-more-clause-ready : goal.returns-in_err-more-clause-ready
returns-in_err-more-clause-ready g c = λ ne.
    let p = (goal.at.returns-in_err-more-clause-ready g c).Else-is_some in
    ready_failed c.requires
    (next_failed c.if-self.false (past g p) c.in_err-more.ensures.kept (all_is_read g p) c.in_err-more.ensures.same)

-- ---- the end of the stream

pub finish-requires-clause-reads : goal.finish-requires-clause-reads
finish-requires-clause-reads g c =
    still_reading c.if-self.false (taken g (goal.at.finish-requires-clause-reads g c).In_ok-more) c.requires

pub returns-in_err-finish-clause-memory : goal.returns-in_err-finish-clause-memory
returns-in_err-finish-clause-memory g c = λ is.
    next_grows c.if-self.false (taken g (goal.at.returns-in_err-finish-clause-memory g c).In_ok-more)
    c.in_err-finish.ensures.memory

pub returns-then-not-more-clause-told : goal.returns-then-not-more-clause-told
returns-then-not-more-clause-told g c =
    next_last c.if-self.false (taken g (goal.at.returns-then-not-more-clause-told g c).In_ok-more)
    c.finish.ensures.ended (c.in_ok-more.ensures.over (ap Ok c.if-not-more.true)) c.in_ok-finish.ensures.all

pub returns-then-not-more-clause-marked : goal.returns-then-not-more-clause-marked
returns-then-not-more-clause-marked g c =
    next_marked _ c.if-self.false (taken g (goal.at.returns-then-not-more-clause-marked g c).In_ok-more)
    c.in_ok-finish.ensures.marked

pub returns-then-not-more-clause-ready : goal.returns-then-not-more-clause-ready
returns-then-not-more-clause-ready g c = λ ne.
    ready_told c.requires
    (next_last c.if-self.false (taken g (goal.at.returns-then-not-more-clause-ready g c).In_ok-more)
    c.finish.ensures.ended (c.in_ok-more.ensures.over (ap Ok c.if-not-more.true)) c.in_ok-finish.ensures.all)

pub returns-then-not-more-clause-all : goal.returns-then-not-more-clause-all
returns-then-not-more-clause-all g c = λ is.
    let none : c.in_ok-finish.field-0 ≡ None = cc in
    next_all c.finish.new.self c.in_ok-finish.field-0 none c.finish.ensures.ended
    (next_last c.if-self.false (taken g (goal.at.returns-then-not-more-clause-all g c).In_ok-more)
    c.finish.ensures.ended (c.in_ok-more.ensures.over (ap Ok c.if-not-more.true)) c.in_ok-finish.ensures.all)

-- ---- the loop

pub loop-scanned-smaller : goal.loop-scanned-smaller
loop-scanned-smaller g c =
    let m = c.in_ok-more.ensures in
    let t = still_reading c.if-self.false c.loop-scanned.invariant.goes c.requires in
    let k = told_none c.in_ok-scanned.scanned (sym c.is_some.ensures ∙ c.if-is_some.false)
    (c.in_ok-scanned.ensures.tells t.0 t.1 t.2) in
    takes_more t.2 (m.more t.0 t.1 (tells_nothing k)) (m.some (ap Ok c.if-not-more.false))

pub loop-scanned-preserved : goal.loop-scanned-preserved
loop-scanned-preserved g c =
    let at = goal.at.loop-scanned-preserved g c in
    let m = c.in_ok-more.ensures in
    let i = c.loop-scanned.invariant in
    let t = still_reading c.if-self.false i.goes c.requires in
    let k = told_none c.in_ok-scanned.scanned (sym c.is_some.ensures ∙ c.if-is_some.false)
    (c.in_ok-scanned.ensures.tells t.0 t.1 t.2) in
    record {
      goes = taken g at.In_ok-more;
      failures = ◌∙◌ {b = (g.S.Source.state c.loop-scanned.input).failures} m.failures i.failures;
      later = omega (
        arith,
        i.later,
        reads_later t.2 (tells_nothing k) (omega (arith, ap length (all_is_read g at.Else-is_some))),
        ap (λ (x : Scan). x.scanner.read) m.rest,
      );
    }
