use Rattle.std.proofs.Common.{◌∙◌, ◌≡◌, ap, Some, codes}
use Rattle.clap.specs.Walk.{Rule, rule_of}
use Rattle.sixel_commands.proofs.commands.pad_arg.Goals as goal

abbrev named : Rule → Rule
named r = record r { value_names = 1 }

abbrev long : Rule → Rule
long r = record r { long = Some (codes "pad") }

pub returns-clause-rule : goal.returns-clause-rule
returns-clause-rule c =
    let helps : rule_of c.help.result ≡ rule_of c.value_name.result = rw c.help.ensures in
    let names : rule_of c.value_name.result ≡ named (rule_of c.long.result) = rw c.value_name.ensures in
    let longs : rule_of c.long.result ≡ long (rule_of c.new.result) = rw c.long.ensures in
    helps ∙ names ∙ ap named (longs ∙ ap long c.new.ensures.rule)

pub returns-clause-local : goal.returns-clause-local
returns-clause-local c = rw (c.help.ensures, c.value_name.ensures, c.long.ensures) c.new.ensures.optional.1
