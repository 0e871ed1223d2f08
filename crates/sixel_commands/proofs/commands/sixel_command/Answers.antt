use Rattle.std.proofs.Common.{◌≡◌, ◌∙◌, ap, codes, true}
use Rattle.std.proofs.lemmas.Result.{IfOk-weaker}
use Rattle.clap.specs.Simple.{App, app_of, app_of_fields, new_app, on_top}
use Rattle.sixel_commands.proofs.CommandLemmas.{with_sub}
use Rattle.sixel_commands.proofs.commands.sixel_command.Goals as goal

-- `sixel` without any subcommand
abbrev bare : App
bare = on_top (λ s. record s {
  has_version = true;
  propagate_version = true;
  subcommand_required = true;
  args_override_self = true;
}) (new_app (codes "sixel"))

pub returns : goal.returns
returns c =
    let about : app_of c.about.result ≡ new_app (codes "sixel") = ap app_of_fields c.about.ensures
    ∙ c.new.ensures.app in
    let helped = ap app_of_fields c.after_help.ensures ∙ about in
    let version = ap app_of_fields c.version.ensures ∙ ap (on_top (λ s. record s { has_version = true })) helped in
    let passed = ap app_of_fields c.propagate_version.ensures
    ∙ ap (on_top (λ s. record s { propagate_version = true })) version in
    let required = ap app_of_fields c.subcommand_required.ensures
    ∙ ap (on_top (λ s. record s { subcommand_required = true })) passed in
    let new : app_of c.args_override_self.result ≡ bare = ap app_of_fields c.args_override_self.ensures
    ∙ ap (on_top (λ s. record s { args_override_self = true })) required in
    let list = with_sub new c.in_ok-list_command.ensures.app c.in_ok-list_command.ensures.local
    c.in_ok-subcommand.ensures in
    let check = with_sub list c.in_ok-check_command.ensures.app c.in_ok-check_command.ensures.local
    c.in_ok-subcommand-2.ensures in
    let survey = with_sub check c.in_ok-survey_command.ensures.app c.in_ok-survey_command.ensures.local
    c.in_ok-subcommand-3.ensures in
    let scan = with_sub survey c.in_ok-scan_command.ensures.app c.in_ok-scan_command.ensures.local
    c.in_ok-subcommand-4.ensures in
    let render = with_sub scan c.in_ok-render_command.ensures.app c.in_ok-render_command.ensures.local
    c.in_ok-subcommand-5.ensures in
    let encode = with_sub render c.in_ok-encode_command.ensures.app c.in_ok-encode_command.ensures.local
    c.in_ok-subcommand-6.ensures in
    let show = with_sub encode c.in_ok-show_command.ensures.app c.in_ok-show_command.ensures.local
    c.in_ok-subcommand-7.ensures in
    let differ = with_sub show c.in_ok-differ_command.ensures.app c.in_ok-differ_command.ensures.local
    c.in_ok-subcommand-8.ensures in
    let mend = with_sub differ c.in_ok-mend_command.ensures.app c.in_ok-mend_command.ensures.local
    c.in_ok-subcommand-9.ensures in
    IfOk-weaker c.subcommand-10.result _ _ (λ r h. with_sub mend c.in_ok-explain_command.ensures.app
    c.in_ok-explain_command.ensures.local h) c.subcommand-10.ensures
