use Rattle.std.proofs.Common.{[], ◌∷◌}
use Rattle.sixel_grammar.specs.Following.{command_at}
use Rattle.sixel_show.proofs.StageLemmas.{finds-more}
use Rattle.sixel_show.proofs.box_finder.BoxFinderFollower.take_command.Goals as goal

pub returns-clause-taken : goal.returns-clause-taken
returns-clause-taken c =
    finds-more c.args.self.now c.look_at.new.self (command_at c.args._place c.args.command ∷ []) c.look_at.ensures
