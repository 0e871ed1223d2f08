use Rattle.std.proofs.Common.{[], ◌∷◌, ◌++◌, subst}
use Rattle.sixel_grammar.specs.declared.command.Plain.{Plain}
use Rattle.sixel_grammar.specs.declared.command.Plain.TheVariants.{Nothing, Command}
use Rattle.sixel_grammar.specs.Plain.{plain_of}
use Rattle.sixel_grammar.specs.Standing.{Takes, completions}
use Rattle.sixel_grammar.proofs.FollowingLemmas.{followed_byte, if_halt, may_all, on_halt, stopped_byte, takes_none}
use Rattle.sixel_grammar.proofs.following.follow_data.Goals as goal

pub take-requires : goal.take-requires
take-requires g c =
    let a = c.requires.2 in
    let plain = Command c.in-Some-Command.place c.in-Some-Command.command in
    let takes = λ (p : Plain). Takes c.args.reader.now c.feed_plain.new.self c.args.byte (completions (plain_of p)) in
    let accepted : takes plain = subst takes c.in-Some-Command.field-0-is c.in-Some-Command.ensures.accepted in (
      c.requires.0,
      a.events,
      a.taken,
      may_all c.feed_plain.new.self a.events (completions (plain_of plain)) (c.requires.1 ++ c.args.byte ∷ [])
          (accepted a.events c.requires.1 a.read),
    )

pub returns-in-Some-Nothing-clause-followed : goal.returns-in-Some-Nothing-clause-followed
returns-in-Some-Nothing-clause-followed g c =
    let takes = λ (p : Plain). Takes c.args.reader.now c.feed_plain.new.self c.args.byte (completions (plain_of p)) in
    let accepted : takes Nothing = subst takes c.in-Some-Nothing.field-0-is c.in-Some-Nothing.ensures.accepted in
    followed_byte g.F.Follower.has_taken c.args.reader.now c.feed_plain.new.self c.args.follower.now c.args.follower.now
    c.args.byte (completions (plain_of Nothing)) accepted (takes_none g.F.Follower.has_taken c.args.follower.now)

pub returns-in-Some-Command-clause-followed : goal.returns-in-Some-Command-clause-followed
returns-in-Some-Command-clause-followed g c =
    let plain = Command c.in-Some-Command.place c.in-Some-Command.command in
    let takes = λ (p : Plain). Takes c.args.reader.now c.feed_plain.new.self c.args.byte (completions (plain_of p)) in
    let accepted : takes plain = subst takes c.in-Some-Command.field-0-is c.in-Some-Command.ensures.accepted in
    on_halt c.take.result c.halted.result _ _ c.halted.ensures
    (followed_byte g.F.Follower.has_taken c.args.reader.now c.feed_plain.new.self c.args.follower.now c.take.new.self
    c.args.byte (completions (plain_of plain)) accepted)
    c.take.ensures.taken

pub returns-in-Some-Command-clause-halted : goal.returns-in-Some-Command-clause-halted
returns-in-Some-Command-clause-halted g c =
    let plain = Command c.in-Some-Command.place c.in-Some-Command.command in
    let takes = λ (p : Plain). Takes c.args.reader.now c.feed_plain.new.self c.args.byte (completions (plain_of p)) in
    let accepted : takes plain = subst takes c.in-Some-Command.field-0-is c.in-Some-Command.ensures.accepted in
    if_halt c.take.result c.halted.result _ _ c.halted.ensures
    (λ stop. stopped_byte g.F.Follower.has_taken g.F.Follower.may_stop c.args.reader.now c.feed_plain.new.self
    c.args.follower.now c.take.new.self c.args.byte (completions (plain_of plain)) stop accepted)
    c.take.ensures.stopped
