use Rattle.std.proofs.Common.{codes}
use Rattle.std.proofs.lemmas.Result.{IfOk-weaker}
use Rattle.sixel_commands.specs.Commands.{mend_app}
use Rattle.sixel_commands.proofs.CommandLemmas.{ReadsAs, app_says, local_says, named_only, with_arg}
use Rattle.sixel_commands.proofs.commands.mend_command.Goals as goal

pub returns : goal.returns
returns c =
    let new = named_only (codes "mend") c.in_ok-task_command.ensures.app c.in_ok-task_command.ensures.local in
    let wide = with_arg new c.wide_arg.ensures.rule c.wide_arg.ensures.local c.in_ok-arg.ensures in
    let quiet = with_arg wide c.quiet_arg.ensures.rule c.quiet_arg.ensures.local c.in_ok-arg-2.ensures in
    let background = with_arg quiet c.background_arg.ensures.rule c.background_arg.ensures.local
    c.in_ok-arg-3.ensures in
    let showing = with_arg background c.flag_arg.ensures.rule c.flag_arg.ensures.local c.in_ok-arg-4.ensures in
    let selects = with_arg showing c.flag_arg-2.ensures.rule c.flag_arg-2.ensures.local c.in_ok-arg-5.ensures in
    let on = with_arg selects c.names_arg.ensures.rule c.names_arg.ensures.local c.in_ok-arg-6.ensures in
    let pad = with_arg on c.pad_arg.ensures.rule c.pad_arg.ensures.local c.in_ok-arg-7.ensures in
    let whole = IfOk-weaker c.arg-8.result _ (ReadsAs mend_app)
    (λ r h. with_arg pad c.file_arg.ensures.rule c.file_arg.ensures.local h) c.arg-8.ensures in
    record { app = app_says mend_app c.arg-8.result whole; local = local_says mend_app c.arg-8.result whole }
