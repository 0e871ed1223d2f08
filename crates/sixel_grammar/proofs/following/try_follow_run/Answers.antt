use Rattle.std.proofs.Common.{◌++◌, take}
use Rattle.std.proofs.lemmas.Result.{err_from_is_err_and}
use Rattle.sixel_grammar.specs.Following.{HaltsWithin}
use Rattle.sixel_grammar.specs.Runs.{events_of_run}
use Rattle.sixel_grammar.proofs.FollowingLemmas.{followed_run, if_halt, may_all, on_halt, stopped_run}
use Rattle.sixel_grammar.proofs.following.try_follow_run.Goals as goal

pub hand_run-requires-clause-may : goal.hand_run-requires-clause-may
hand_run-requires-clause-may g c =
    let a = c.requires.2 in
    let run = c.in-Some.run' in (
      c.requires.0,
      a.events,
      a.taken,
      may_all c.feed_run.new.self a.events (events_of_run run c.args.bytes.now)
          (c.requires.1 ++ take run.length c.args.bytes.now)
          (c.in-Some.ensures.taken a.events c.requires.1 a.read).1,
    )

pub returns-in_err-halted-in-Some-clause-halted : goal.returns-in_err-halted-in-Some-clause-halted
returns-in_err-halted-in-Some-clause-halted g c =
    let failed = err_from_is_err_and c.from_residual.result c.from_residual.ensures.1 in
    let halts = if_halt c.hand_run.result c.halted.result _
    (HaltsWithin g.F.Follower.has_taken g.F.Follower.may_stop c.args.reader.now c.args.follower.now
    c.feed_run.new.self c.hand_run.new.follower c.args.bytes.now) c.halted.ensures
    (λ stop. stopped_run g.F.Follower.has_taken g.F.Follower.may_stop c.args.reader.now c.feed_run.new.self
    c.args.follower.now c.hand_run.new.follower c.in-Some.run' c.args.bytes.now stop c.in-Some.ensures.taken)
    c.hand_run.ensures.stopped in
    rw (failed.1, failed.2) (rw c.in_err-halted-in-Some.was at halts)

pub returns-in_ok-halted-in-Some-clause-followed : goal.returns-in_ok-halted-in-Some-clause-followed
returns-in_ok-halted-in-Some-clause-followed g c =
    let follows = on_halt c.hand_run.result c.halted.result _ _ c.halted.ensures
    (followed_run g.F.Follower.has_taken c.args.reader.now c.feed_run.new.self c.args.follower.now
    c.hand_run.new.follower c.in-Some.run' c.args.bytes.now c.in-Some.ensures.taken)
    c.hand_run.ensures.taken in
    rw c.in_ok-halted-in-Some.was at follows
