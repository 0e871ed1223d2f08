use Rattle.sixel_grammar.specs.Following.{command_at}
use Rattle.sixel_grammar.specs.declared.command.Command.TheVariants.{Select}
use Rattle.sixel_terminal.proofs.FollowLemmas.{draws_one}
use Rattle.sixel_terminal.proofs.following.DrawingFollower.take_select.Goals as goal

pub returns-clause-taken : goal.returns-clause-taken
returns-clause-taken c =
    draws_one c.args.self.now c.push.new.self (command_at c.args._place (Select c.args.register))
    c.push.ensures.terminal c.push.ensures.drawn
