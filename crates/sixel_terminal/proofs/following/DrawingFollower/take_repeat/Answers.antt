use Rattle.sixel_grammar.specs.Following.{command_at}
use Rattle.sixel_grammar.specs.declared.command.Command.TheVariants.{Repeat}
use Rattle.sixel_terminal.proofs.FollowLemmas.{draws_one}
use Rattle.sixel_terminal.proofs.following.DrawingFollower.take_repeat.Goals as goal

pub returns-clause-taken : goal.returns-clause-taken
returns-clause-taken c =
    draws_one c.args.self.now c.push.new.self (command_at c.args._place (Repeat c.args.count c.args.bits))
    c.push.ensures.terminal c.push.ensures.drawn
