use Rattle.std.proofs.Common.{◌++◌}
use Rattle.std.proofs.lemmas.Result.{IfErr-weaker, on_ok_weaker}
use Rattle.sixel_emulator.specs.Heard.{omitted_in}
use Rattle.sixel_emulator.proofs.HeardLemmas.{followed_on, heard_halts, hearing_at}
use Rattle.sixel_emulator.proofs.heard_source.LookingPieceReaderHearing.read_piece.Goals as goal

pub follow_bytes-requires : goal.follow_bytes-requires
follow_bytes-requires g c =
    let b = c.requires.before in
    let piece = c.args.piece.now in
    let looked = c.look.ensures b.1.hears b.2 b.3.0 in (
      hearing_at b.0 (omitted_in b.1.hears (b.2 ++ piece)),
      b.2,
      followed_on g.F.Listener.has_taken b.1.hears b.0 c.args.hearing.now c.omitted-hearing.result c.args.reader.now
          b.2 piece b.3.1 (c.omitted-hearing.ensures b.1.hears (b.2 ++ piece) looked),
    )

pub returns-clause-read : goal.returns-clause-read
returns-clause-read g c =
    let piece = c.args.piece.now in
    on_ok_weaker c.follow_bytes.result
    (λ follows first start bytes read.
    let looked = c.look.ensures start.hears bytes read.0 in (
      looked,
      follows (hearing_at first (omitted_in start.hears (bytes ++ piece))) bytes
          (followed_on g.F.Listener.has_taken start.hears first c.args.hearing.now c.omitted-hearing.result
          c.args.reader.now bytes piece read.1 (c.omitted-hearing.ensures start.hears (bytes ++ piece) looked)),
    ))
    c.follow_bytes.ensures.followed

pub returns-clause-halted : goal.returns-clause-halted
returns-clause-halted g c =
    let piece = c.args.piece.now in
    IfErr-weaker c.follow_bytes.result _ _
    (heard_halts g.F.Listener.has_taken c.args.reader.now c.follow_bytes.new.reader c.args.hearing.now
    (hearing_at c.args.hearing.now c.omitted-hearing.result) c.follow_bytes.new.follower c.args.self.now
    c.look.new.self piece
    (λ first start bytes read.
    let looked = c.look.ensures start.hears bytes read.0 in (
      hearing_at first (omitted_in start.hears (bytes ++ piece)),
      followed_on g.F.Listener.has_taken start.hears first c.args.hearing.now c.omitted-hearing.result
          c.args.reader.now bytes piece read.1 (c.omitted-hearing.ensures start.hears (bytes ++ piece) looked),
    )))
    c.follow_bytes.ensures.halted
