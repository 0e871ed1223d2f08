use Rattle.std.proofs.lemmas.Result.{IfErr-weaker, on_ok_weaker}
use Rattle.sixel_grammar.specs.FirstPiece.{with_first}
use Rattle.sixel_grammar.specs.Following.{AreFollowed}
use Rattle.sixel_grammar.proofs.PiecesLemmas.{followed_none, followed_source, halted_source}
use Rattle.sixel_emulator.proofs.first_piece.follow_rest.Goals as goal

pub read_rest-requires-clause-unread : goal.read_rest-requires-clause-unread
read_rest-requires-clause-unread g c =
    let u = c.requires.untaken in
    (u.0, tt, λ reader stands. followed_none g.F.Follower.has_taken u.0 c.args.follower.now u.1 reader stands)

pub returns-clause-followed : goal.returns-clause-followed
returns-clause-followed g c =
    on_ok_weaker c.read_rest.result
    (followed_source {W = Unit {0}} g.F.Follower.has_taken
    (λ first start reader follower now bytes. AreFollowed (g.F.Follower.has_taken first) reader follower bytes)
    (λ first start reader f w bytes read. read) c.args.follower.now c.read_rest.new.follower tt tt
    (with_first c.args.piece.now c.args.read (g.S.Source.state c.args.input.now).remaining)
    (λ first taken. followed_none g.F.Follower.has_taken first c.args.follower.now taken))
    c.read_rest.ensures.read

pub returns-clause-halted : goal.returns-clause-halted
returns-clause-halted g c =
    IfErr-weaker c.read_rest.result _ _
    (λ halt. halted_source {W = Unit {0}} g.F.Follower.has_taken g.F.Follower.may_stop
    (λ first start reader follower now bytes. AreFollowed (g.F.Follower.has_taken first) reader follower bytes)
    c.args.follower.now c.read_rest.new.follower tt tt
    (with_first c.args.piece.now c.args.read (g.S.Source.state c.args.input.now).remaining) halt
    (λ first taken. followed_none g.F.Follower.has_taken first c.args.follower.now taken))
    c.read_rest.ensures.halted
