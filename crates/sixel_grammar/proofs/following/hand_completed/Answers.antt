use Rattle.std.proofs.Common.{◌++◌}
use Rattle.std.specs.Option.{option_to_list}
use Rattle.std.proofs.lemmas.Result.{err_from_is_err_and}
use Rattle.sixel_grammar.proofs.FollowingLemmas.{if_err, may_first, may_then, stops_first, stops_then}
use Rattle.sixel_grammar.proofs.following.hand_completed.Goals as goal

pub hand_one-requires : goal.hand_one-requires
hand_one-requires g c =
    let q = c.requires in
    let first = option_to_list c.args.completed.first in
    (q.0, q.1, q.2, may_first q.1 first (option_to_list c.args.completed.second) q.3)

pub returns-in_err-hand_one-clause-stopped : goal.returns-in_err-hand_one-clause-stopped
returns-in_err-hand_one-clause-stopped g c =
    let failed = err_from_is_err_and c.from_residual.result c.from_residual.ensures.1 in
    rw (failed.1, failed.2)
    (stops_first g.F.Follower.has_taken g.F.Follower.may_stop c.args.follower.now c.hand_one.new.follower
    (option_to_list c.args.completed.first) (option_to_list c.args.completed.second) _
    c.in_err-hand_one.ensures.stopped)

pub hand_one-requires-2 : goal.hand_one-requires-2
hand_one-requires-2 g c =
    let q = c.requires in
    let first = option_to_list c.args.completed.first in (
      q.0,
      q.1 ++ first,
      c.in_ok-hand_one.ensures.taken q.0 q.1 q.2,
      may_then q.1 first (option_to_list c.args.completed.second) q.3,
    )

pub returns-clause-stopped : goal.returns-clause-stopped
returns-clause-stopped g c =
    if_err c.hand_one-2.result _ _
    (λ stop s. stops_then g.F.Follower.has_taken g.F.Follower.may_stop c.args.follower.now c.hand_one.new.follower
    c.hand_one-2.new.follower (option_to_list c.args.completed.first) (option_to_list c.args.completed.second) stop
    c.in_ok-hand_one.ensures.taken s)
    c.hand_one-2.ensures.stopped
