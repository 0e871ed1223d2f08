use Rattle.std.proofs.Common.{codes}
use Rattle.std.proofs.lemmas.Result.{IfOk-weaker}
use Rattle.sixel_commands.specs.Commands.{plain_app}
use Rattle.sixel_commands.proofs.CommandLemmas.{ReadsAs, app_says, local_says, named_only, with_arg}
use Rattle.sixel_commands.proofs.commands.list_command.Goals as goal

pub returns : goal.returns
returns c =
    let list = plain_app (codes "list") in
    let new = named_only (codes "list") c.in_ok-task_command.ensures.app c.in_ok-task_command.ensures.local in
    let whole = IfOk-weaker c.arg.result _ (ReadsAs list)
    (λ r h. with_arg new c.file_arg.ensures.rule c.file_arg.ensures.local h) c.arg.ensures in
    record { app = app_says list c.arg.result whole; local = local_says list c.arg.result whole }
