use Rattle.std.proofs.Common.{ap, Some}
use Rattle.clap.specs.Walk.{Rule}
use Rattle.sixel_commands.proofs.commands.quiet_arg.Goals as goal

abbrev by_q : Rule → Rule
by_q r = record r { short = Some 113 }

pub returns-clause-rule : goal.returns-clause-rule
returns-clause-rule c = rw c.short.ensures (ap by_q c.flag_arg.ensures.rule)

pub returns-clause-local : goal.returns-clause-local
returns-clause-local c = rw c.short.ensures c.flag_arg.ensures.local
