use Rattle.std.proofs.Common.{[], ◌∷◌, ◌++◌}
use Rattle.std.proofs.lemmas.Result.{err_from_is_err_and}
use Rattle.sixel_grammar.specs.Following.{command_at}
use Rattle.sixel_grammar.proofs.FollowingLemmas.{if_err, may_then, stops_first, stops_then}
use Rattle.sixel_grammar.proofs.following.hand_two.Goals as goal

pub returns-in_err-take-clause-stopped : goal.returns-in_err-take-clause-stopped
returns-in_err-take-clause-stopped g c =
    let failed = err_from_is_err_and c.from_residual.result c.from_residual.ensures.1 in
    rw (failed.1, failed.2)
    (stops_first g.F.Follower.has_taken g.F.Follower.may_stop c.args.follower.now c.take.new.self
    (command_at c.args.two.place c.args.two.ended ∷ []) (command_at c.args.two.own_place c.args.two.own ∷ []) _
    c.in_err-take.ensures.stopped)

pub take-requires-2 : goal.take-requires-2
take-requires-2 g c =
    let q = c.requires in
    let first = command_at c.args.two.place c.args.two.ended ∷ [] in (
      q.0,
      q.1 ++ first,
      c.in_ok-take.ensures.taken q.0 q.1 q.2,
      may_then q.1 first (command_at c.args.two.own_place c.args.two.own ∷ []) q.3,
    )

pub returns-clause-stopped : goal.returns-clause-stopped
returns-clause-stopped g c =
    if_err c.take-2.result _ _
    (λ stop s. stops_then g.F.Follower.has_taken g.F.Follower.may_stop c.args.follower.now c.take.new.self
    c.take-2.new.self (command_at c.args.two.place c.args.two.ended ∷ [])
    (command_at c.args.two.own_place c.args.two.own ∷ []) stop
    c.in_ok-take.ensures.taken s)
    c.take-2.ensures.stopped
