use Rattle.std.proofs.Common.{refl}
use Rattle.sixel_list.proofs.ListingLemmas.{followed-drained, followed-failed, refused-drained, refused-failed}
use Rattle.sixel_list.proofs.list.list_piece.Goals as goal

pub returns-in-Ok-drain-clause-followed : goal.returns-in-Ok-drain-clause-followed
returns-in-Ok-drain-clause-followed g c =
    followed-drained g.K.Sink.state c.args.reader.now c.follow_bytes.new.reader c.args.listing.now
    c.follow_bytes.new.follower _ c.args.piece.now c.in-Ok.ensures.followed
    (record { same_out = refl; drains = c.in-Ok-drain.ensures })

pub returns-in-Err-clause-halted : goal.returns-in-Err-clause-halted
returns-in-Err-clause-halted g c =
    followed-failed g.K.Sink.state c.args.reader.now c.follow_bytes.new.reader c.args.listing.now
    c.follow_bytes.new.follower _ c.args.piece.now c.in-Err.stop c.in-Ok.ensures.followed
    (record { same_out = refl; drains = c.in-Err.ensures })

pub returns-in-Ok-drain-2-clause-halted : goal.returns-in-Ok-drain-2-clause-halted
returns-in-Ok-drain-2-clause-halted g c =
    refused-drained g.K.Sink.state c.args.reader.now c.follow_bytes.new.reader c.args.listing.now
    c.follow_bytes.new.follower _ c.args.piece.now c.in-Err-Refused.fault
    (rw c.in-Err-Refused.field-0-is at c.in-Err-Refused.ensures.halted)
    (record { same_out = refl; drains = c.in-Ok-drain-2.ensures })

pub returns-in-Err-drain-clause-halted : goal.returns-in-Err-drain-clause-halted
returns-in-Err-drain-clause-halted g c =
    refused-failed g.K.Sink.state c.args.reader.now c.follow_bytes.new.reader c.args.listing.now
    c.follow_bytes.new.follower _ c.args.piece.now c.in-Err-Refused.fault c.in-Err-drain.stop
    (rw c.in-Err-Refused.field-0-is at c.in-Err-Refused.ensures.halted)
    (record { same_out = refl; drains = c.in-Err-drain.ensures })
