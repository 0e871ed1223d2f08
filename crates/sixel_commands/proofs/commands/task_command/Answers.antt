use Rattle.std.proofs.Common.{◌∙◌, ap}
use Rattle.std.proofs.lemmas.Result.{IfOk-weaker}
use Rattle.clap.specs.Simple.{app_of_fields, new_app}
use Rattle.sixel_commands.proofs.CommandLemmas.{ReadsAs, app_says, begun, local_says}
use Rattle.sixel_commands.proofs.commands.task_command.Goals as goal

pub returns : goal.returns
returns c =
    let name = c.args.name.now in
    let new = begun name c.new.result c.about.result c.after_help.result _ _ c.new.ensures.app
    c.new.ensures.local c.about.ensures c.after_help.ensures in
    let whole = IfOk-weaker c.display_name.result _ (ReadsAs (new_app name)) (λ r h. record {
      app = ap app_of_fields h.0 ∙ new.app;
      local = ap (λ f. f.has_globals) h.0 ∙ new.local;
    }) c.display_name.ensures in
    record {
      app = app_says (new_app name) c.display_name.result whole;
      local = local_says (new_app name) c.display_name.result whole;
    }
