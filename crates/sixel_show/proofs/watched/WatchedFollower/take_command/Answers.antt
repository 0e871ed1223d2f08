use Rattle.sixel_grammar.specs.Following.{command_at}
use Rattle.sixel_show.proofs.WatchLemmas.{watches_one}
use Rattle.sixel_show.proofs.watched.WatchedFollower.take_command.Goals as goal

pub returns-clause-taken : goal.returns-clause-taken
returns-clause-taken c =
    watches_one c.args.self.now c.push.new.self (command_at c.args._place c.args.command) c.push.ensures.terminal
    c.push.ensures.watched
