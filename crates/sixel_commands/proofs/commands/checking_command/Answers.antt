use Rattle.std.proofs.lemmas.Result.{IfOk-weaker}
use Rattle.sixel_commands.specs.Commands.{checking_app}
use Rattle.sixel_commands.proofs.CommandLemmas.{ReadsAs, app_says, local_says, named_only, with_arg}
use Rattle.sixel_commands.proofs.commands.checking_command.Goals as goal

pub returns : goal.returns
returns c =
    let checking = checking_app c.args.name.now in
    let new = named_only c.args.name.now c.in_ok-task_command.ensures.app c.in_ok-task_command.ensures.local in
    let wide = with_arg new c.wide_arg.ensures.rule c.wide_arg.ensures.local c.in_ok-arg.ensures in
    let on = with_arg wide c.names_arg.ensures.rule c.names_arg.ensures.local c.in_ok-arg-2.ensures in
    let ignored = with_arg on c.ignore_arg.ensures.rule c.ignore_arg.ensures.local c.in_ok-arg-3.ensures in
    let quiet = with_arg ignored c.quiet_arg.ensures.rule c.quiet_arg.ensures.local c.in_ok-arg-4.ensures in
    let failed = with_arg quiet c.flag_arg.ensures.rule c.flag_arg.ensures.local c.in_ok-arg-5.ensures in
    let json = with_arg failed c.json_arg.ensures.rule c.json_arg.ensures.local c.in_ok-arg-6.ensures in
    let explain = with_arg json c.explain_arg.ensures.rule c.explain_arg.ensures.local c.in_ok-arg-7.ensures in
    let whole = IfOk-weaker c.arg-8.result _ (ReadsAs checking)
    (λ r h. with_arg explain c.files_arg.ensures.rule c.files_arg.ensures.local h) c.arg-8.ensures in
    record { app = app_says checking c.arg-8.result whole; local = local_says checking c.arg-8.result whole }
