use Rattle.std.proofs.Common.{codes}
use Rattle.std.proofs.lemmas.Result.{IfOk-weaker}
use Rattle.sixel_commands.specs.Commands.{render_app}
use Rattle.sixel_commands.proofs.CommandLemmas.{ReadsAs, app_says, local_says, named_only, with_arg}
use Rattle.sixel_commands.proofs.commands.render_command.Goals as goal

pub returns : goal.returns
returns c =
    let new = named_only (codes "render") c.in_ok-task_command.ensures.app c.in_ok-task_command.ensures.local in
    let wide = with_arg new c.wide_arg.ensures.rule c.wide_arg.ensures.local c.in_ok-arg.ensures in
    let png = with_arg wide c.png_arg.ensures.rule c.png_arg.ensures.local c.in_ok-arg-2.ensures in
    let whole = IfOk-weaker c.arg-3.result _ (ReadsAs render_app)
    (λ r h. with_arg png c.file_arg.ensures.rule c.file_arg.ensures.local h) c.arg-3.ensures in
    record { app = app_says render_app c.arg-3.result whole; local = local_says render_app c.arg-3.result whole }
