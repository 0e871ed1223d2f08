use Rattle.sixel_report.proofs.RuleSetLemmas.{asked_more}
use Rattle.sixel_report.proofs.rule_set.add_asked.Goals as goal

pub loop-entry-preserved : goal.loop-entry-preserved
loop-entry-preserved c = λ entries before.
    asked_more entries _ _ _ _ _ c.loop-entry-test.true (c.loop-entry.invariant entries before) c.add.ensures
