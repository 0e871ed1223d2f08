use Rattle.std.proofs.Common.{[], ◌∷◌, ℕ, List, drop, get_or, subst}
use Rattle.std.proofs.lemmas.Result.{err_from_is_err_and}
use Rattle.sixel_grammar.specs.Following.{HaltsWithin}
use Rattle.sixel_grammar.proofs.FollowingLemmas.{first_rest, halts_longer}
use Rattle.sixel_grammar.proofs.following.follow_first.Goals as goal

pub returns-in_err-follow_sign-clause-halted : goal.returns-in_err-follow_sign-clause-halted
returns-in_err-follow_sign-clause-halted g c =
    let failed = err_from_is_err_and c.from_residual.result c.from_residual.ensures.1 in
    let bytes = c.args.bytes.now in
    rw (failed.1, failed.2)
    (subst (λ (t : List ℕ).
    HaltsWithin g.F.Follower.has_taken g.F.Follower.may_stop c.args.reader.now c.args.follower.now
    c.follow_sign.new.reader c.follow_sign.new.follower t c.in_err-follow_sign.field-0.0)
    (first_rest bytes c.requires.some)
    (halts_longer g.F.Follower.has_taken g.F.Follower.may_stop c.args.reader.now c.follow_sign.new.reader
    c.args.follower.now c.follow_sign.new.follower (get_or bytes 0 0 ∷ []) (drop 1 bytes) c.in_err-follow_sign.field-0.0
    c.in_err-follow_sign.ensures.halted))

pub returns-in_err-follow_data-clause-halted : goal.returns-in_err-follow_data-clause-halted
returns-in_err-follow_data-clause-halted g c =
    let left = c.from_residual-in_err-follow_data in
    let failed = err_from_is_err_and left.result left.ensures.1 in
    let bytes = c.args.bytes.now in
    rw (failed.1, failed.2)
    (subst (λ (t : List ℕ).
    HaltsWithin g.F.Follower.has_taken g.F.Follower.may_stop c.args.reader.now c.args.follower.now
    c.follow_data.new.reader c.follow_data.new.follower t c.in_err-follow_data.field-0.0)
    (first_rest bytes c.requires.some)
    (halts_longer g.F.Follower.has_taken g.F.Follower.may_stop c.args.reader.now c.follow_data.new.reader
    c.args.follower.now c.follow_data.new.follower (get_or bytes 0 0 ∷ []) (drop 1 bytes) c.in_err-follow_data.field-0.0
    c.in_err-follow_data.ensures.halted))
