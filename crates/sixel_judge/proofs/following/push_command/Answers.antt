use Rattle.sixel_grammar.specs.Following.{command_at}
use Rattle.sixel_judge.proofs.FollowLemmas.{event_may}
use Rattle.sixel_judge.proofs.following.push_command.Goals as goal

pub push-requires-clause-expected : goal.push-requires-clause-expected
push-requires-clause-expected g c =
    let h = c.requires in
    (h.0, h.1, h.2, (event_may h.1 (command_at c.args.place c.args.command) h.3).0)

pub push-requires-clause-spellable : goal.push-requires-clause-spellable
push-requires-clause-spellable g c = (event_may c.requires.1 (command_at c.args.place c.args.command) c.requires.3).1
