use Rattle.std.proofs.Common.{[], ◌∷◌, ◌++◌}
use Rattle.std.proofs.lemmas.Result.{err_from_is_err_and}
use Rattle.sixel_grammar.specs.Standing.{completions}
use Rattle.sixel_grammar.proofs.FollowingLemmas.{followed_byte, if_halt, may_all, on_halt, refused_byte, stopped_byte}
use Rattle.sixel_grammar.proofs.following.follow_any.Goals as goal

pub hand_completed-requires : goal.hand_completed-requires
hand_completed-requires g c =
    let a = c.requires.2 in (
      c.requires.0,
      a.events,
      a.taken,
      may_all c.feed.new.self a.events (completions c.in_ok-completed.completed) (c.requires.1 ++ c.args.byte ∷ [])
          (c.in_ok-completed.ensures.accepted a.events c.requires.1 a.read),
    )

pub returns-in_err-completed-clause-halted : goal.returns-in_err-completed-clause-halted
returns-in_err-completed-clause-halted g c =
    let failed = err_from_is_err_and c.from_residual.result c.from_residual.ensures.1 in
    rw (failed.1, failed.2)
    (refused_byte g.F.Follower.has_taken g.F.Follower.may_stop c.args.reader.now c.feed.new.self c.args.follower.now
    c.args.byte _ c.in_err-completed.ensures.refused)

pub returns-clause-followed : goal.returns-clause-followed
returns-clause-followed g c =
    on_halt c.hand_completed.result c.halted.result _ _ c.halted.ensures
    (followed_byte g.F.Follower.has_taken c.args.reader.now c.feed.new.self c.args.follower.now
    c.hand_completed.new.follower c.args.byte (completions c.in_ok-completed.completed)
    c.in_ok-completed.ensures.accepted)
    c.hand_completed.ensures.taken

pub returns-clause-halted : goal.returns-clause-halted
returns-clause-halted g c =
    if_halt c.hand_completed.result c.halted.result _ _ c.halted.ensures
    (λ stop. stopped_byte g.F.Follower.has_taken g.F.Follower.may_stop c.args.reader.now c.feed.new.self
    c.args.follower.now c.hand_completed.new.follower c.args.byte (completions c.in_ok-completed.completed) stop
    c.in_ok-completed.ensures.accepted)
    c.hand_completed.ensures.stopped
