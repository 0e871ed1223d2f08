use Rattle.std.proofs.Common.{codes}
use Rattle.std.proofs.lemmas.Result.{IfOk-weaker}
use Rattle.sixel_commands.specs.Commands.{differ_app}
use Rattle.sixel_commands.proofs.CommandLemmas.{ReadsAs, app_says, local_says, named_only, with_arg}
use Rattle.sixel_commands.proofs.commands.differ_command.Goals as goal

pub returns : goal.returns
returns c =
    let new = named_only (codes "differ") c.in_ok-task_command.ensures.app c.in_ok-task_command.ensures.local in
    let background = with_arg new c.background_arg.ensures.rule c.background_arg.ensures.local c.in_ok-arg.ensures in
    let sheet = with_arg background c.flag_arg.ensures.rule c.flag_arg.ensures.local c.in_ok-arg-2.ensures in
    let whole = IfOk-weaker c.arg-3.result _ (ReadsAs differ_app)
    (λ r h. with_arg sheet c.files_arg.ensures.rule c.files_arg.ensures.local h) c.arg-3.ensures in
    record { app = app_says differ_app c.arg-3.result whole; local = local_says differ_app c.arg-3.result whole }
