use Rattle.std.proofs.Common.{ap, Some}
use Rattle.clap.specs.Walk.{Rule}
use Rattle.clap.specs.declared.builder.action.ArgAction.TheVariants.{Append}
use Rattle.sixel_commands.proofs.commands.names_arg.Goals as goal

abbrev again : Rule → Rule
again r = record r { action = Some Append }

pub returns-clause-rule : goal.returns-clause-rule
returns-clause-rule c = rw c.action.ensures (ap again c.on_arg.ensures.rule)

pub returns-clause-local : goal.returns-clause-local
returns-clause-local c = rw c.action.ensures c.on_arg.ensures.local
