use Rattle.std.proofs.Common.{ℕ, List, ◌++◌, ◌+◌, subst, sym}
use Rattle.std.proofs.lemmas.Result.{err_from_is_err_and}
use Rattle.sixel_grammar.specs.Following.{MayFollow, StopsAmong}
use Rattle.sixel_grammar.specs.Runs.{column_events, columns_in, select_events}
use Rattle.sixel_grammar.proofs.FollowingLemmas.{columns_are, if_err, may_first, may_then, stops_first, stops_then}
use Rattle.sixel_grammar.proofs.following.hand_run.Goals as goal

pub hand_select-requires : goal.hand_select-requires
hand_select-requires g c =
    let run = c.args.run in
    let q = c.requires.may in (
      q.0,
      q.1,
      q.2,
      may_first q.1 (select_events run.place run.select)
          (column_events (run.place + run.start) run.columns (columns_in run c.args.bytes.now)) q.3,
    )

pub returns-in_err-hand_select-clause-stopped : goal.returns-in_err-hand_select-clause-stopped
returns-in_err-hand_select-clause-stopped g c =
    let run = c.args.run in
    let failed = err_from_is_err_and c.from_residual.result c.from_residual.ensures.1 in
    rw (failed.1, failed.2)
    (stops_first g.F.Follower.has_taken g.F.Follower.may_stop c.args.follower.now c.hand_select.new.follower
    (select_events run.place run.select)
    (column_events (run.place + run.start) run.columns (columns_in run c.args.bytes.now)) _
    c.in_err-hand_select.ensures.stopped)

pub hand_columns-requires-clause-may : goal.hand_columns-requires-clause-may
hand_columns-requires-clause-may g c =
    let run = c.args.run in
    let q = c.requires.may in
    let first = select_events run.place run.select in (
      q.0,
      q.1 ++ first,
      c.in_ok-hand_select.ensures.taken q.0 q.1 q.2,
      subst (λ (t : List ℕ). MayFollow (q.1 ++ first) (column_events (run.place + run.start) run.columns t))
          (sym (columns_are run c.args.bytes.now))
          (may_then q.1 first
          (column_events (run.place + run.start) run.columns (columns_in run c.args.bytes.now)) q.3),
    )

pub returns-clause-stopped : goal.returns-clause-stopped
returns-clause-stopped g c =
    let run = c.args.run in
    if_err c.hand_columns.result _ _
    (λ stop s. stops_then g.F.Follower.has_taken g.F.Follower.may_stop c.args.follower.now c.hand_select.new.follower
    c.hand_columns.new.follower (select_events run.place run.select)
    (column_events (run.place + run.start) run.columns (columns_in run c.args.bytes.now)) stop
    c.in_ok-hand_select.ensures.taken
    (subst (λ (t : List ℕ). StopsAmong g.F.Follower.has_taken g.F.Follower.may_stop c.hand_select.new.follower
    c.hand_columns.new.follower (column_events (run.place + run.start) run.columns t) stop)
    (columns_are run c.args.bytes.now) s))
    c.hand_columns.ensures.stopped
