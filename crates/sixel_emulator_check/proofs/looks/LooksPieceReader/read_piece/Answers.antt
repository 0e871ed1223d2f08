use Rattle.std.proofs.lemmas.Result.{IfErr-weaker, on_ok_weaker}
use Rattle.sixel_grammar.proofs.PiecesLemmas.{halts_piece}
use Rattle.sixel_emulator_check.specs.Looks.{HasFollowed}
use Rattle.sixel_emulator_check.proofs.looks.LooksPieceReader.read_piece.Goals as goal

pub returns-clause-read : goal.returns-clause-read
returns-clause-read g c =
    on_ok_weaker c.follow_bytes.result
    (λ follows first start bytes read. (follows first bytes read.0, c.look.ensures bytes read.1))
    c.follow_bytes.ensures.followed

pub returns-clause-halted : goal.returns-clause-halted
returns-clause-halted g c =
    IfErr-weaker c.follow_bytes.result _ _
    (halts_piece g.F.Follower.has_taken g.F.Follower.may_stop (HasFollowed g.F.Follower.has_taken)
    (λ first start reader f w bytes read. read.0) c.args.reader.now c.follow_bytes.new.reader c.args.follower.now
    c.follow_bytes.new.follower c.args.self.now c.look.new.self c.args.piece.now)
    c.follow_bytes.ensures.halted
