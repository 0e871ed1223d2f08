use Rattle.std.proofs.Common.{codes}
use Rattle.std.proofs.lemmas.Result.{IfOk-weaker}
use Rattle.sixel_commands.specs.Commands.{encode_app}
use Rattle.sixel_commands.proofs.CommandLemmas.{ReadsAs, app_says, local_says, named_only, with_arg}
use Rattle.sixel_commands.proofs.commands.encode_command.Goals as goal

pub returns : goal.returns
returns c =
    let new = named_only (codes "encode") c.in_ok-task_command.ensures.app c.in_ok-task_command.ensures.local in
    let wide = with_arg new c.wide_arg.ensures.rule c.wide_arg.ensures.local c.in_ok-arg.ensures in
    let on = with_arg wide c.names_arg.ensures.rule c.names_arg.ensures.local c.in_ok-arg-2.ensures in
    let pad = with_arg on c.pad_arg.ensures.rule c.pad_arg.ensures.local c.in_ok-arg-3.ensures in
    let whole = IfOk-weaker c.arg-4.result _ (ReadsAs encode_app)
    (λ r h. with_arg pad c.file_arg.ensures.rule c.file_arg.ensures.local h) c.arg-4.ensures in
    record { app = app_says encode_app c.arg-4.result whole; local = local_says encode_app c.arg-4.result whole }
