use Rattle.std.proofs.Common.{codes}
use Rattle.std.proofs.lemmas.Result.{IfOk-weaker}
use Rattle.sixel_commands.specs.Commands.{scan_app}
use Rattle.sixel_commands.proofs.CommandLemmas.{ReadsAs, app_says, local_says, named_only, with_arg}
use Rattle.sixel_commands.proofs.commands.scan_command.Goals as goal

pub returns : goal.returns
returns c =
    let new = named_only (codes "scan") c.in_ok-task_command.ensures.app c.in_ok-task_command.ensures.local in
    let wide = with_arg new c.wide_arg.ensures.rule c.wide_arg.ensures.local c.in_ok-arg.ensures in
    let quiet = with_arg wide c.quiet_arg.ensures.rule c.quiet_arg.ensures.local c.in_ok-arg-2.ensures in
    let eight = with_arg quiet c.flag_arg.ensures.rule c.flag_arg.ensures.local c.in_ok-arg-3.ensures in
    let json = with_arg eight c.json_arg.ensures.rule c.json_arg.ensures.local c.in_ok-arg-4.ensures in
    let whole = IfOk-weaker c.arg-5.result _ (ReadsAs scan_app)
    (λ r h. with_arg json c.files_arg.ensures.rule c.files_arg.ensures.local h) c.arg-5.ensures in
    record { app = app_says scan_app c.arg-5.result whole; local = local_says scan_app c.arg-5.result whole }
