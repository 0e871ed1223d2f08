use Rattle.std.proofs.Common.{inl, inr}
use Rattle.std.specs.declared.alloc.AllocError.{AllocError}
use Rattle.sixel_judge.proofs.FollowLemmas.{followed_for, follows_for, refuses_for, stops_for}
use Rattle.sixel_scan.proofs.string_check.StringCheck.read_on.Goals as goal

pub follow_bytes-requires : goal.follow_bytes-requires
follow_bytes-requires c =
    let t = c.requires in
    let had = followed_for t.0 c.args.self.now.reader c.args.self.now.checker t.1 t.2 in
    (had.0, t.1, had.1)

pub returns-in-Ok-clause-read : goal.returns-in-Ok-clause-read
returns-in-Ok-clause-read c = λ registers bytes a.
    inl (follows_for registers _ _ _ _ bytes c.args.piece.now c.in-Ok.ensures.followed a)

pub returns-in-Err-Refused-clause-read : goal.returns-in-Err-Refused-clause-read
returns-in-Err-Refused-clause-read c = λ registers bytes a.
    let halted = rw c.in-Err-Refused.field-0-is at c.in-Err-Refused.ensures.halted in
    let refused = refuses_for AllocError registers c.args.self.now.reader c.follow_bytes.new.reader
    c.args.self.now.checker c.follow_bytes.new.follower bytes c.args.piece.now _ halted a in
    inr (record { fault = _; kept = refused.0; always = refused.1 })

pub returns-in-Err-Stopped-clause-memory : goal.returns-in-Err-Stopped-clause-memory
returns-in-Err-Stopped-clause-memory c = λ registers bytes a.
    let halted = rw c.in-Err-Stopped.field-0-is at c.in-Err-Stopped.ensures.halted in
    stops_for registers c.args.self.now.reader c.follow_bytes.new.reader c.args.self.now.checker
    c.follow_bytes.new.follower bytes c.args.piece.now c.in-Err-Stopped.stop halted a
