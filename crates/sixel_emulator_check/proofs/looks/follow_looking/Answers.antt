use Rattle.std.proofs.lemmas.Result.{IfErr-weaker, on_ok_weaker}
use Rattle.sixel_grammar.proofs.FollowSourceLemmas.{told_known}
use Rattle.sixel_grammar.proofs.PiecesLemmas.{followed_none, followed_source, halted_source}
use Rattle.sixel_emulator_check.specs.Looks.{HasFollowed, HasLooked}
use Rattle.sixel_emulator_check.proofs.looks.follow_looking.Goals as goal

pub read_source-requires : goal.read_source-requires
read_source-requires g c =
    let u = c.requires.untaken in (
      u.0,
      c.args.looks.now,
      λ reader stands.
          (followed_none g.F.Follower.has_taken u.0 c.args.follower.now u.1 reader stands, c.requires.unseen),
    )

pub returns-clause-followed : goal.returns-clause-followed
returns-clause-followed g c =
    on_ok_weaker c.read_source.result
    (followed_source g.F.Follower.has_taken (HasFollowed g.F.Follower.has_taken)
    (λ first start reader f w bytes read. read.0) c.args.follower.now c.read_source.new.follower c.args.looks.now
    c.read_source.new.pieces (g.I.Source.state c.args.input.now).remaining
    (λ first taken reader stands.
    (followed_none g.F.Follower.has_taken first c.args.follower.now taken reader stands, c.requires.unseen)))
    c.read_source.ensures.read

pub returns-clause-halted : goal.returns-clause-halted
returns-clause-halted g c =
    IfErr-weaker c.read_source.result _ _
    (λ halt. halted_source g.F.Follower.has_taken g.F.Follower.may_stop (HasFollowed g.F.Follower.has_taken)
    c.args.follower.now c.read_source.new.follower c.args.looks.now c.read_source.new.pieces
    (g.I.Source.state c.args.input.now).remaining halt
    (λ first taken reader stands.
    (followed_none g.F.Follower.has_taken first c.args.follower.now taken reader stands, c.requires.unseen)))
    c.read_source.ensures.halted

pub returns-clause-seen : goal.returns-clause-seen
returns-clause-seen g c =
    let u = c.requires.untaken in
    let known = (g.I.Source.state c.args.input.now).remaining in
    on_ok_weaker c.read_source.result
    (λ reads.
    let r = reads u.0 c.args.looks.now (λ reader stands.
    (followed_none g.F.Follower.has_taken u.0 c.args.follower.now u.1 reader stands, c.requires.unseen)) in
    told_known known r.bytes (HasLooked c.read_source.new.pieces) r.known_are r.read.1)
    c.read_source.ensures.read
