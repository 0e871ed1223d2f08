use Rattle.std.proofs.Common.{[], ◌++◌, ◌∙◌, ℕ, List, ap, refl, subst, sym, take}
use Rattle.std.proofs.lemmas.List.{append-nil}
use Rattle.std.proofs.lemmas.Result.{err_from_is_err_and}
use Rattle.sixel_grammar.specs.Following.{FollowsBytes, HaltsWithin}
use Rattle.sixel_grammar.proofs.FollowingLemmas.{follows_later, halts_later, no_rest, parts_then, takes_nothing}
use Rattle.sixel_grammar.proofs.following.follow_bytes.Goals as goal

pub loop-rest-init : goal.loop-rest-init
loop-rest-init g c = ([], refl, takes_nothing g.F.Follower.has_taken c.args.reader.now c.args.follower.now)

pub follow_some-requires-clause-stands : goal.follow_some-requires-clause-stands
follow_some-requires-clause-stands g c =
    let i = c.loop-rest.invariant in
    (c.requires.0, c.requires.1 ++ i.0, i.2 c.requires.0 c.requires.1 c.requires.2)

pub returns-in_err-count-clause-halted : goal.returns-in_err-count-clause-halted
returns-in_err-count-clause-halted g c =
    let failed = err_from_is_err_and c.from_residual.result c.from_residual.ensures.1 in
    let i = c.loop-rest.invariant in
    rw (failed.1, failed.2)
    (subst (λ (t : List ℕ).
    HaltsWithin g.F.Follower.has_taken g.F.Follower.may_stop c.args.reader.now c.args.follower.now
    c.follow_some.new.reader c.follow_some.new.follower t c.in_err-count.field-0.0) (sym i.1)
    (halts_later g.F.Follower.has_taken g.F.Follower.may_stop c.args.reader.now c.loop-rest.reader
    c.follow_some.new.reader c.args.follower.now c.loop-rest.follower c.follow_some.new.follower i.0
    c.loop-rest.rest.now c.in_err-count.field-0.0 i.2 c.in_err-count.ensures.halted))

pub loop-rest-preserved : goal.loop-rest-preserved
loop-rest-preserved g c =
    let i = c.loop-rest.invariant in
    let rest = c.loop-rest.rest.now in
    let count = c.in_ok-count.count in (
      i.0 ++ take count rest,
      i.1 ∙ parts_then i.0 rest count,
      follows_later g.F.Follower.has_taken c.args.reader.now c.loop-rest.reader c.follow_some.new.reader
          c.args.follower.now c.loop-rest.follower c.follow_some.new.follower i.0 (take count rest) i.2
          c.in_ok-count.ensures.followed,
    )

pub returns-clause-followed : goal.returns-clause-followed
returns-clause-followed g c =
    let i = c.loop-rest.invariant in
    let none = no_rest c.loop-rest.rest.now (sym c.is_empty.ensures ∙ c.loop-rest-test.false) in
    subst
    (λ (t : List ℕ). FollowsBytes g.F.Follower.has_taken c.args.reader.now c.args.follower.now c.loop-rest.reader
    c.loop-rest.follower t)
    (sym (i.1 ∙ ap (λ (t : List ℕ). i.0 ++ t) none ∙ append-nil i.0)) i.2
