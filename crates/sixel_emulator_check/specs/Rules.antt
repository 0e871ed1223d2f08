-- The rules of portable pictures, 1 to 13, and those that named terminals ask for, 14 to 24.
use Rattle.std.specs.Prelude.{◌++◌, ℕ, List, map}
use Rattle.sixel_model.specs.Rules.{all_rules, number_of}
use Rattle.sixel_emulator_rules.specs.Asked as asked
use Rattle.sixel_emulator_rules.specs.Counts.{in_order}
use Rattle.sixel_emulator_check.specs.declared.rule.NamedRule.{NamedRule}
use Rattle.sixel_emulator_check.specs.declared.rule.NamedRule.TheVariants.{Portable, Asked}
use Rattle.sixel_emulator_check.specs.declared.verdict.NamedFinding.{NamedFinding}
use Rattle.sixel_emulator_check.specs.declared.verdict.NamedFinding.TheVariants as finding

abbrev pub number_of_named : NamedRule → ℕ
number_of_named (Portable rule) = number_of rule
number_of_named (Asked rule) = asked.number_of rule

-- all of them, in order of number
abbrev pub all_named_rules : List NamedRule
all_named_rules = map Portable all_rules ++ map Asked in_order

-- the rule of a finding
abbrev pub rule_of : NamedFinding → NamedRule
rule_of (finding.Portable f) = Portable f.rule
rule_of (finding.Asked f) = Asked f.rule
