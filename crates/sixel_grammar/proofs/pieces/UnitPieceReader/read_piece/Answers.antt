use Rattle.std.proofs.lemmas.Result.{IfErr-weaker}
use Rattle.sixel_grammar.specs.Following.{AreFollowed}
use Rattle.sixel_grammar.proofs.PiecesLemmas.{halts_piece}
use Rattle.sixel_grammar.proofs.pieces.UnitPieceReader.read_piece.Goals as goal

pub returns-clause-halted : goal.returns-clause-halted
returns-clause-halted g c =
    IfErr-weaker c.follow_bytes.result _ _
    (halts_piece {W = Unit {0}} g.F.Follower.has_taken g.F.Follower.may_stop
    (λ first start reader follower now bytes. AreFollowed (g.F.Follower.has_taken first) reader follower bytes)
    (λ first start reader f w bytes read. read) c.args.reader.now c.follow_bytes.new.reader c.args.follower.now
    c.follow_bytes.new.follower tt tt c.args.piece.now)
    c.follow_bytes.ensures.halted
