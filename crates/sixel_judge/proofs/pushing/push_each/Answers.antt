use Rattle.std.proofs.Common.{◌++◌, ◌+◌, arith, subst, take}
use Rattle.sixel_grammar.specs.Stretches.{sixels_from}
use Rattle.sixel_judge.specs.Standing.{StandsAfter}
use Rattle.sixel_judge.proofs.StretchLemmas.{begun_of, begun_take, sixels_then}
use Rattle.sixel_judge.proofs.PushLemmas.{event_at}
use Rattle.sixel_judge.proofs.pushing.push_each.Goals as goal

pub push-requires-clause-expected : goal.push-requires-clause-expected
push-requires-clause-expected g c =
    let q = c.requires.stands in
    let begun = begun_take c.args.place c.loop-index.index c.args.stretch.now
    (omega (arith, c.loop-index-test.true)) c.requires.sixels (begun_of q.0 c.args.checker.now q.1 q.3 q.2) in (
      q.0,
      q.1 ++ sixels_from c.args.place (take c.loop-index.index c.args.stretch.now),
      c.loop-index.invariant q.0 q.1 q.2 q.3,
      begun.may_step _,
    )

pub loop-index-preserved : goal.loop-index-preserved
loop-index-preserved g c = λ registers seen s may.
    let before = c.loop-index.invariant registers seen s may in
    subst (StandsAfter registers c.push.new.self)
    (sixels_then seen c.args.place c.loop-index.index c.args.stretch.now (omega (arith, c.loop-index-test.true)))
    (event_at registers _ _ _ (c.args.place + c.loop-index.index) _ (c.in_ok-push.ensures.ok registers _ before) (omega arith))
