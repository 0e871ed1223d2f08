use Rattle.std.proofs.Common.{[], ◌∷◌}
use Rattle.sixel_grammar.specs.Following.{command_at}
use Rattle.sixel_grammar.specs.declared.command.Command.TheVariants.{Select}
use Rattle.sixel_grammar.specs.declared.command.Event.TheVariants.{Step}
use Rattle.sixel_show.proofs.StageLemmas.{box-of-one, finds-none}
use Rattle.sixel_show.proofs.box_finder.BoxFinderFollower.take_select.Goals as goal

pub returns-clause-taken : goal.returns-clause-taken
returns-clause-taken c =
    let select = Select c.args._register in
    finds-none c.args.self.now (command_at c.args._place select ∷ []) (box-of-one (Step select))
