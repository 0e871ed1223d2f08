use Rattle.std.proofs.Common.{[], refl}
use Rattle.std.proofs.lemmas.Result.{err_from_is_err_and}
use Rattle.sixel_grammar.proofs.FollowSourceLemmas.{halts_document}
use Rattle.sixel_grammar.proofs.source.follow_document.Goals as goal

pub returns-clause-followed : goal.returns-clause-followed
returns-clause-followed g c = λ first h.
    let a = c.in_ok-follow_bytes.ensures.followed first [] (record { events = []; read = c.new-reader.ensures; taken = h }) in
    record {
      events = a.events;
      bytes = c.args.bytes.now;
      document = c.in_ok-finish.ensures.answer a.events c.args.bytes.now a.read;
      taken = a.taken;
      known_are = refl;
    }

pub returns-in_err-follow_bytes-clause-halted : goal.returns-in_err-follow_bytes-clause-halted
returns-in_err-follow_bytes-clause-halted g c =
    let failed = err_from_is_err_and c.from_residual.result c.from_residual.ensures.1 in
    rw (failed.1, failed.2)
    (halts_document g.F.Follower.has_taken g.F.Follower.may_stop c.args.follower.now c.follow_bytes.new.follower
    c.requires.0 c.new-reader.result c.follow_bytes.new.reader c.args.bytes.now
    c.in_err-follow_bytes.field-0.0 c.requires.1 c.new-reader.ensures c.in_err-follow_bytes.ensures.halted)

pub returns-in_err-finish-clause-halted : goal.returns-in_err-finish-clause-halted
returns-in_err-finish-clause-halted g c =
    let left = c.from_residual-in_err-finish in
    let failed = err_from_is_err_and left.result left.ensures.1 in
    let a = c.in_ok-follow_bytes.ensures.followed c.requires.0 []
    (record { events = []; read = c.new-reader.ensures; taken = c.requires.1 }) in
    rw (failed.1, failed.2) (c.in_err-finish.ensures.answer a.events c.args.bytes.now a.read).0
