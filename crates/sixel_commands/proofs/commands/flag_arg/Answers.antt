use Rattle.std.proofs.Common.{ap, Some}
use Rattle.clap.specs.Walk.{Rule, Text}
use Rattle.clap.specs.declared.builder.action.ArgAction.TheVariants.{SetTrue}
use Rattle.sixel_commands.proofs.commands.flag_arg.Goals as goal

abbrev as_flag : Text → Rule → Rule
as_flag name r = record r { long = Some name; action = Some SetTrue }

pub returns-clause-rule : goal.returns-clause-rule
returns-clause-rule c =
    rw (c.help.ensures, c.action.ensures, c.long.ensures) (ap (as_flag c.args.name.now) c.new.ensures.rule)

pub returns-clause-local : goal.returns-clause-local
returns-clause-local c = rw (c.help.ensures, c.action.ensures, c.long.ensures) c.new.ensures.optional.1
