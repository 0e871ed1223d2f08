use Rattle.std.proofs.Common.{◌≡◌, [], take}
use Rattle.sixel_report.specs.RuleSets.{rules_of}
use Rattle.sixel_report.proofs.rule_set.portable_rules.Given as goal

-- the rules of the entries so far
abbrev pub invariant-loop-entry : goal.invariant-loop-entry
invariant-loop-entry l = l.rules ≡ rules_of (take l.entry-index l.entries) []
