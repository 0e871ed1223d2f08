use Rattle.std.proofs.Common.{◌∙◌, sym}
use Rattle.sixel_messages.proofs.PutsLemmas.{none_put, one_put}
use Rattle.sixel_report.proofs.PutLemmas.{is_put}
use Rattle.sixel_messages.proofs.ReportLemmas.{in_json, in_lines, no_message}
use Rattle.sixel_messages.proofs.reporting.say_answer.Goals as goal

pub returns-in-Ok-clause-said : goal.returns-in-Ok-clause-said
returns-in-Ok-clause-said g c = rw (c.in-Ok.is, no_message c.args.lines _ c.args.format _) (none_put _)

pub returns-in_err-put_fault_object-clause-said : goal.returns-in_err-put_fault_object-clause-said
returns-in_err-put_fault_object-clause-said g c =
    rw (in_json c.args.lines _ _ _ _ (sym c.is_json.ensures ∙ c.if-is_json.true)).message (none_put _)

pub returns-in_ok-put_fault_object-clause-said : goal.returns-in_ok-put_fault_object-clause-said
returns-in_ok-put_fault_object-clause-said g c =
    rw (in_json c.args.lines _ _ _ _ (sym c.is_json.ensures ∙ c.if-is_json.true)).message (none_put _)

pub returns-else-is_json-clause-said : goal.returns-else-is_json-clause-said
returns-else-is_json-clause-said g c =
    rw (in_lines c.args.lines _ _ _ _ (sym c.is_json.ensures ∙ c.if-is_json.false)).message
    (rw c.in-Err.is (one_put _ _ _ (is_put c.put_refusal.result _ _ _ c.put_refusal.ensures)))
