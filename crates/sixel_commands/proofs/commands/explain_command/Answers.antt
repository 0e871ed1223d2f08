use Rattle.std.proofs.Common.{◌≡◌, Some, ap, codes, false}
use Rattle.std.proofs.lemmas.Result.{IfOk-weaker}
use Rattle.clap.specs.Simple.{new_rule}
use Rattle.clap.specs.Walk.{Rule, rule_of}
use Rattle.clap.specs.declared.builder.action.ArgAction.TheVariants.{Append}
use Rattle.sixel_commands.specs.Commands.{explain_app}
use Rattle.sixel_commands.proofs.CommandLemmas.{ReadsAs, app_says, local_says, named_only, with_arg}
use Rattle.sixel_commands.proofs.commands.explain_command.Goals as goal

abbrev named : Rule → Rule
named r = record r { action = Some Append; value_names = 1 }

pub returns : goal.returns
returns c =
    let new = named_only (codes "explain") c.in_ok-task_command.ensures.app c.in_ok-task_command.ensures.local in
    let rule : rule_of c.help.result ≡ named (new_rule (codes "name")) =
    rw (c.help.ensures, c.value_name.ensures, c.action.ensures) (ap named c.new.ensures.rule) in
    let local : c.help.result.global ≡ false =
    rw (c.help.ensures, c.value_name.ensures, c.action.ensures) c.new.ensures.optional.1 in
    let whole = IfOk-weaker c.arg.result _ (ReadsAs explain_app) (λ r h. with_arg new rule local h) c.arg.ensures in
    record { app = app_says explain_app c.arg.result whole; local = local_says explain_app c.arg.result whole }
