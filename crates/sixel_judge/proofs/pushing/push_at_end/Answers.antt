use Rattle.std.proofs.Common.{◌++◌, ◌+◌, ◌-◌, arith, length, refl, subst, take}
use Rattle.sixel_grammar.specs.Stretches.{sixels_from}
use Rattle.sixel_judge.specs.Standing.{StandsAfter}
use Rattle.sixel_judge.proofs.StretchLemmas.{begun_of, begun_take}
use Rattle.sixel_judge.proofs.PushLemmas.{sixels_at, sixels_joined}
use Rattle.sixel_judge.proofs.pushing.push_at_end.Goals as goal

pub push_each-requires-then-try_push_stretch-clause-stands : goal.push_each-requires-then-try_push_stretch-clause-stands
push_each-requires-then-try_push_stretch-clause-stands g c =
    let q = c.requires.stands in
    let most = length c.args.stretch.now - 16 in
    let begun = begun_take c.args.place most c.args.stretch.now (omega arith)
    c.requires.sixels (begun_of q.0 c.args.checker.now q.1 q.3 q.2) in (
      q.0,
      q.1 ++ sixels_from c.args.place (take most c.args.stretch.now),
      c.if-try_push_stretch.ensures.pushed refl q.0 c.args.place q.1 q.2 q.3,
      begun.may_step,
    )

pub returns-then-try_push_stretch-clause-kept : goal.returns-then-try_push_stretch-clause-kept
returns-then-try_push_stretch-clause-kept g c = λ registers seen s may.
    let most = length c.args.stretch.now - 16 in
    let begun = begun_take c.args.place most c.args.stretch.now (omega arith)
    c.requires.sixels (begun_of registers c.args.checker.now seen may s) in
    subst (StandsAfter registers c.push_each-then-try_push_stretch.new.checker)
    (sixels_joined seen c.args.place most c.args.stretch.now)
    (sixels_at registers _ _ _ (c.args.place + most) _ (c.push_each-then-try_push_stretch.ensures.kept registers _
    (c.if-try_push_stretch.ensures.pushed refl registers c.args.place seen s may) begun.may_step) (omega arith))
