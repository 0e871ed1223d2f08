use Rattle.std.proofs.lemmas.Result.{IfErr-weaker, on_ok_weaker}
use Rattle.sixel_grammar.specs.Following.{AreFollowed}
use Rattle.sixel_grammar.proofs.PiecesLemmas.{followed_none, followed_source, halted_source}
use Rattle.sixel_grammar.proofs.source.follow_source.Goals as goal

pub returns-clause-followed : goal.returns-clause-followed
returns-clause-followed g c =
    on_ok_weaker c.read_source.result
    (followed_source {W = Unit {0}} g.F.Follower.has_taken
    (λ first start reader follower now bytes. AreFollowed (g.F.Follower.has_taken first) reader follower bytes)
    (λ first start reader f w bytes read. read) c.args.follower.now c.read_source.new.follower tt tt
    (g.I.Source.state c.args.input.now).remaining
    (λ first taken. followed_none g.F.Follower.has_taken first c.args.follower.now taken))
    c.read_source.ensures.read

pub returns-clause-halted : goal.returns-clause-halted
returns-clause-halted g c =
    IfErr-weaker c.read_source.result _ _
    (λ halt. halted_source {W = Unit {0}} g.F.Follower.has_taken g.F.Follower.may_stop
    (λ first start reader follower now bytes. AreFollowed (g.F.Follower.has_taken first) reader follower bytes)
    c.args.follower.now c.read_source.new.follower tt tt (g.I.Source.state c.args.input.now).remaining halt
    (λ first taken. followed_none g.F.Follower.has_taken first c.args.follower.now taken))
    c.read_source.ensures.halted
