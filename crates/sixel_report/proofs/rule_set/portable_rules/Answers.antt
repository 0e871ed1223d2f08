use Rattle.sixel_report.proofs.RuleSetLemmas.{portable_more}
use Rattle.sixel_report.proofs.rule_set.portable_rules.Goals as goal

pub loop-entry-preserved : goal.loop-entry-preserved
loop-entry-preserved c = portable_more _ _ _ _ _ c.loop-entry-test.true c.loop-entry.invariant c.add.ensures
