use Rattle.std.proofs.Common.{◌++◌, subst}
use Rattle.std.proofs.lemmas.Result.{err_from_is_err_and}
use Rattle.std.specs.declared.convert.Infallible.{Infallible}
use Rattle.sixel_grammar.specs.declared.halt.Halt.{Halt}
use Rattle.sixel_grammar.specs.Following.{HaltsWithin}
use Rattle.sixel_grammar.proofs.FollowingLemmas.{always_refused}
use Rattle.sixel_show.proofs.show_box.follow.Goals as goal

pub returns-in_err-follow_bytes-clause-refused : goal.returns-in_err-follow_bytes-clause-refused
returns-in_err-follow_bytes-clause-refused g c =
    let failed = err_from_is_err_and c.from_residual.result c.from_residual.ensures.1 in
    let halts = subst (λ (halt : Halt Infallible).
    HaltsWithin g.F.Follower.has_taken g.F.Follower.may_stop c.args.reader.now c.args.follower.now
    c.follow_bytes.new.reader c.follow_bytes.new.follower c.args.piece.now halt) failed.2 c.in_err-follow_bytes.ensures.halted in
    rw failed.1 (λ first prefix followed.
    always_refused (g.F.Follower.has_taken first) c.follow_bytes.new.reader c.follow_bytes.new.follower
    (prefix ++ c.args.piece.now) _ (halts first prefix followed))
