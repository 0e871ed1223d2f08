-- Some of the rules of portable pictures and of those that named terminals ask for.
use Rattle.std.specs.Prelude.{◌==◌, ◌-◌, Bool, true, false, List, filter, map, slice_index_or, slice_set}
use Rattle.std.specs.List.{list_any}
use Rattle.sixel_model.specs.Rules.{number_of}
use Rattle.sixel_emulator_rules.specs.Asked as asked
use Rattle.sixel_emulator_rules.specs.declared.tally.AskedEntry.{AskedEntry}
use Rattle.sixel_emulator_check.specs.Rules.{all_named_rules, number_of_named}
use Rattle.sixel_emulator_check.specs.declared.rule.NamedRule.{NamedRule}
use Rattle.sixel_emulator_check.specs.declared.rule.NamedRule.TheVariants.{Portable, Asked}
use Rattle.sixel_report.specs.declared.rule_set.RuleSet.{RuleSet}
use Rattle.sixel_survey.specs.declared.entry.Entry.{Entry}

-- the rules of which this says yes
abbrev pub rules_where : (NamedRule → Bool) → RuleSet
rules_where test = record { holds = map test all_named_rules }

-- whether the rule is one of the set
abbrev pub has_rule : RuleSet → NamedRule → Bool
has_rule set rule = slice_index_or set.holds (number_of_named rule - 1) false

abbrev pub no_rules : RuleSet
no_rules = rules_where (λ rule. false)

-- the rules of the set, in order of number
abbrev pub rules_in : RuleSet → List NamedRule
rules_in set = filter (has_rule set) all_named_rules

-- the set with the rule in it
abbrev pub with_rule : RuleSet → NamedRule → RuleSet
with_rule set rule = record set { holds = slice_set set.holds (number_of_named rule - 1) true }

-- whether one of the entries is of this rule
abbrev pub is_listed : List Entry → List AskedEntry → NamedRule → Bool
is_listed entries more (Portable rule) = list_any (λ (e : Entry). number_of e.rule == number_of rule) entries
is_listed entries more (Asked rule) =
    list_any (λ (e : AskedEntry). asked.number_of e.rule == asked.number_of rule) more

-- the rules of the entries
abbrev pub rules_of : List Entry → List AskedEntry → RuleSet
rules_of entries more = rules_where (is_listed entries more)
