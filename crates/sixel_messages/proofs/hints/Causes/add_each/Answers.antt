use Rattle.std.proofs.Common.{◌∙◌, sym}
use Rattle.sixel_emulator_check.specs.Rules.{all_named_rules}
use Rattle.sixel_report.specs.RuleSets.{has_rule}
use Rattle.sixel_messages.proofs.CauseLemmas.{kept_next, passed_over}
use Rattle.sixel_messages.proofs.hints.Causes.add_each.Goals as goal
use Rattle.sixel_messages.proofs.hints.Causes.add_each.Goals.{else-has, then-has}

pub loop-rule-preserved : goal.loop-rule-preserved
loop-rule-preserved c =
    let keeps = has_rule c.args.rules.now in
    let causes = c.args.self.now.found.items in
    let i = c.loop-rule.rule-index in
    elim c.if-has.branch [
      | then-has w ↦
          rw w.self-is (kept_next keeps causes all_named_rules i _ _ _ c.loop-rule-test.true (sym c.has.ensures ∙ w.if-has.true)
          c.loop-rule.invariant w.add.ensures)
      | else-has w ↦
          rw w.self-is (passed_over keeps causes all_named_rules i _ _ c.loop-rule-test.true (sym c.has.ensures ∙ w.if-has.false)
          c.loop-rule.invariant)
    ]
