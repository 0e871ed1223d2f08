use Rattle.std.proofs.Common.{◌++◌, ◌+◌, ◌-◌, ◌<◌, arith, length, refl, subst, sym, take}
use Rattle.sixel_grammar.specs.Stretches.{sixels_from}
use Rattle.sixel_judge.specs.Standing.{CheckerValue, StandsAfter}
use Rattle.sixel_judge.proofs.PushLemmas.{data_after_first, data_then, may_after_first, sixels_at, sixels_split}
use Rattle.sixel_judge.proofs.pushing.push_after_first.Goals as goal

pub try_push_stretch-requires-clause-expected : goal.try_push_stretch-requires-clause-expected
try_push_stretch-requires-clause-expected g c =
    let q = c.requires.stands in
    let some : 0 < length c.args.bytes.now = omega (arith, c.requires.bytes.0, c.requires.bytes.1) in
    let first = sixels_from c.args.place (take 1 c.args.bytes.now) in (
      q.0,
      q.1 ++ first,
      c.in_ok-push_each.ensures.kept q.0 q.1 q.2 q.3,
      may_after_first q.1 c.args.place c.args.bytes.now some q.3,
    )

pub try_push_stretch-requires-clause-sixels : goal.try_push_stretch-requires-clause-sixels
try_push_stretch-requires-clause-sixels g c = data_after_first c.args.bytes.now c.args.count c.requires.sixels

pub returns-then-try_push_stretch-clause-kept : goal.returns-then-try_push_stretch-clause-kept
returns-then-try_push_stretch-clause-kept g c = λ registers seen s may.
    let xs = c.args.bytes.now in
    let some : 0 < length xs = omega (arith, c.requires.bytes.0, c.requires.bytes.1) in
    let first = sixels_from c.args.place (take 1 xs) in
    subst (StandsAfter registers c.try_push_stretch.new.self)
    (sixels_split seen c.args.place c.args.count xs c.requires.bytes.0 c.requires.bytes.1)
    (c.if-try_push_stretch.ensures.pushed refl registers (c.args.place + 1) (seen ++ first)
    (c.in_ok-push_each.ensures.kept registers seen s may) (may_after_first seen c.args.place xs some may))

pub push_at_end-requires-clause-stands : goal.push_at_end-requires-clause-stands
push_at_end-requires-clause-stands g c =
    let q = c.requires.stands in
    let some : 0 < length c.args.bytes.now = omega (arith, c.requires.bytes.0, c.requires.bytes.1) in
    let first = sixels_from c.args.place (take 1 c.args.bytes.now) in (
      q.0,
      q.1 ++ first,
      subst (λ (v : CheckerValue). StandsAfter q.0 v (q.1 ++ first)) (sym (c.if-try_push_stretch.ensures.kept refl))
          (c.in_ok-push_each.ensures.kept q.0 q.1 q.2 q.3),
      may_after_first q.1 c.args.place c.args.bytes.now some q.3,
    )

pub push_at_end-requires-clause-sixels : goal.push_at_end-requires-clause-sixels
push_at_end-requires-clause-sixels g c =
    data_then _ (c.args.count - 1) (data_after_first c.args.bytes.now c.args.count c.requires.sixels)

pub returns-clause-kept : goal.returns-clause-kept
returns-clause-kept g c = λ registers seen s may.
    let xs = c.args.bytes.now in
    let some : 0 < length xs = omega (arith, c.requires.bytes.0, c.requires.bytes.1) in
    let first = sixels_from c.args.place (take 1 xs) in
    subst (StandsAfter registers c.push_at_end.new.checker)
    (sixels_split seen c.args.place c.args.count xs c.requires.bytes.0 c.requires.bytes.1)
    (sixels_at registers _ _ _ (c.args.place + 1) _ (c.push_at_end.ensures.kept registers (seen ++ first)
    (subst (λ (v : CheckerValue). StandsAfter registers v (seen ++ first))
    (sym (c.if-try_push_stretch.ensures.kept refl)) (c.in_ok-push_each.ensures.kept registers seen s may))
    (may_after_first seen c.args.place xs some may)) (omega arith))
