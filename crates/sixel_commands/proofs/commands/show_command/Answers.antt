use Rattle.std.proofs.Common.{codes}
use Rattle.std.proofs.lemmas.Result.{IfOk-weaker}
use Rattle.sixel_commands.specs.Commands.{show_app}
use Rattle.sixel_commands.proofs.CommandLemmas.{ReadsAs, app_says, local_says, named_only, with_arg}
use Rattle.sixel_commands.proofs.commands.show_command.Goals as goal

pub returns : goal.returns
returns c =
    let new = named_only (codes "show") c.in_ok-task_command.ensures.app c.in_ok-task_command.ensures.local in
    let wide = with_arg new c.wide_arg.ensures.rule c.wide_arg.ensures.local c.in_ok-arg.ensures in
    let quiet = with_arg wide c.quiet_arg.ensures.rule c.quiet_arg.ensures.local c.in_ok-arg-2.ensures in
    let showing = with_arg quiet c.flag_arg.ensures.rule c.flag_arg.ensures.local c.in_ok-arg-3.ensures in
    let fill = with_arg showing c.flag_arg-2.ensures.rule c.flag_arg-2.ensures.local c.in_ok-arg-4.ensures in
    let selects = with_arg fill c.flag_arg-3.ensures.rule c.flag_arg-3.ensures.local c.in_ok-arg-5.ensures in
    let width = with_arg selects c.side_arg.ensures.rule c.side_arg.ensures.local c.in_ok-arg-6.ensures in
    let height = with_arg width c.side_arg-2.ensures.rule c.side_arg-2.ensures.local c.in_ok-arg-7.ensures in
    let box = with_arg height c.flag_arg-4.ensures.rule c.flag_arg-4.ensures.local c.in_ok-arg-8.ensures in
    let on = with_arg box c.on_arg.ensures.rule c.on_arg.ensures.local c.in_ok-arg-9.ensures in
    let background = with_arg on c.background_arg.ensures.rule c.background_arg.ensures.local
    c.in_ok-arg-10.ensures in
    let png = with_arg background c.png_arg.ensures.rule c.png_arg.ensures.local c.in_ok-arg-11.ensures in
    let whole = IfOk-weaker c.arg-12.result _ (ReadsAs show_app)
    (λ r h. with_arg png c.file_arg.ensures.rule c.file_arg.ensures.local h) c.arg-12.ensures in
    record { app = app_says show_app c.arg-12.result whole; local = local_says show_app c.arg-12.result whole }
