use Rattle.sixel_grammar.specs.Following.{command_at}
use Rattle.sixel_judge.proofs.FollowLemmas.{stops_one}
use Rattle.sixel_judge.proofs.following.CheckerFollower.take_command.Goals as goal

pub returns-in_default-clause-stopped : goal.returns-in_default-clause-stopped
returns-in_default-clause-stopped g c =
    stops_one c.args.self.now c.push_rarely.new.checker (command_at c.args.place c.args.command)
    c.push_rarely.result c.push_rarely.ensures.grows
