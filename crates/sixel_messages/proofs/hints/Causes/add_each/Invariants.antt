use Rattle.std.proofs.Common.{◌≡◌, filter, map, take}
use Rattle.sixel_emulator_check.specs.Rules.{all_named_rules}
use Rattle.sixel_report.specs.RuleSets.{has_rule}
use Rattle.sixel_messages.specs.declared.hints.Cause.TheVariants.{Rule}
use Rattle.sixel_messages.specs.Hints.{with_causes}
use Rattle.sixel_messages.proofs.hints.Causes.add_each.Given as goal

-- the rules so far were added
abbrev pub invariant-loop-rule : goal.invariant-loop-rule
invariant-loop-rule l =
    l.self.found.items
    ≡ with_causes l.fn.self.found.items (map Rule (filter (has_rule l.rules) (take l.rule-index all_named_rules)))
