use Rattle.std.proofs.Common.{◌∙◌, sym}
use Rattle.sixel_messages.proofs.PutsLemmas.{none_put, one_put}
use Rattle.sixel_report.proofs.PutLemmas.{is_put}
use Rattle.sixel_messages.proofs.ReportLemmas.{in_json, in_lines}
use Rattle.sixel_messages.proofs.reporting.say_unopened.Goals as goal

pub returns-then-is_json-clause-said : goal.returns-then-is_json-clause-said
returns-then-is_json-clause-said g c =
    rw (in_json c.args.lines _ _ _ _ (sym c.is_json.ensures ∙ c.if-is_json.true)).message (none_put _)

pub returns-clause-said : goal.returns-clause-said
returns-clause-said g c =
    rw (in_lines c.args.lines _ _ _ _ (sym c.is_json.ensures ∙ c.if-is_json.false)).message
    (one_put _ _ _ (is_put c.put_unopened.result _ _ _ (rw c.name_of.ensures at c.put_unopened.ensures)))
