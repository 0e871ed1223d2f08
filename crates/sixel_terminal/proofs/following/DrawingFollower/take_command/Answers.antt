use Rattle.sixel_grammar.specs.Following.{command_at}
use Rattle.sixel_terminal.proofs.FollowLemmas.{draws_one}
use Rattle.sixel_terminal.proofs.following.DrawingFollower.take_command.Goals as goal

pub returns-clause-taken : goal.returns-clause-taken
returns-clause-taken c =
    draws_one c.args.self.now c.push.new.self (command_at c.args._place c.args.command)
    c.push.ensures.terminal c.push.ensures.drawn
