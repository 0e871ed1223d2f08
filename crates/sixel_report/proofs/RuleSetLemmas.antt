-- Sets of rules, a rule more.
use Rattle.std.proofs.Common.{◌≡◌, ◌∙◌, ◌==◌, ◌||◌, ◌<◌, ◌+◌, ℕ, Bool, true, false, List, [], ◌∷◌, ap, arith, cond}
use Rattle.std.proofs.Common.{get_or, length, map, ne_eqb, refl, sym, take}
use Rattle.std.proofs.lemmas.List.Folds.{list_any_more}
use Rattle.sixel_model.specs.declared.rule.Rule.{Rule}
use Rattle.sixel_model.specs.declared.rule.Rule.TheVariants.{RasterFirst}
use Rattle.sixel_model.specs.Rules.{number_of}
use Rattle.sixel_model.proofs.RuleLemmas.{at_most_last}
use Rattle.sixel_emulator_rules.specs.Asked as asked
use Rattle.sixel_emulator_rules.specs.declared.rule.AskedRule.{AskedRule}
use Rattle.sixel_emulator_rules.specs.declared.rule.AskedRule.TheVariants.{RasterLate}
use Rattle.sixel_emulator_rules.specs.declared.tally.AskedEntry.{AskedEntry}
use Rattle.sixel_emulator_rules.proofs.FirstLemmas.{at_least}
use Rattle.sixel_emulator_check.specs.Rules.{all_named_rules, number_of_named}
use Rattle.sixel_emulator_check.specs.declared.rule.NamedRule.{NamedRule}
use Rattle.sixel_emulator_check.specs.declared.rule.NamedRule.TheVariants.{Portable, Asked}
use Rattle.sixel_report.specs.declared.rule_set.RuleSet.{RuleSet}
use Rattle.sixel_report.specs.RuleSets.{is_listed, rules_of, rules_where, with_rule}
use Rattle.sixel_survey.specs.declared.entry.Entry.{Entry}

same_each : (f g : NamedRule → Bool) (rules : List NamedRule) → ((rule : NamedRule) → f rule ≡ g rule)
    → map f rules ≡ map g rules
same_each f g [] each = refl
same_each f g (rule ∷ rules) each =
    ap (λ b. b ∷ map f rules) (each rule) ∙ ap (λ bs. g rule ∷ bs) (same_each f g rules each)

same_where : (f g : NamedRule → Bool) → ((rule : NamedRule) → f rule ≡ g rule) → rules_where f ≡ rules_where g
same_where f g each =
    ap (λ (holds : List Bool). let set : RuleSet = record { holds = holds } in set) (same_each f g all_named_rules each)

-- the rules of a test and this one
abbrev or_rule : (NamedRule → Bool) → NamedRule → NamedRule → Bool
or_rule f r rule = cond (number_of_named r == number_of_named rule) true (f rule)

-- with a rule, the set has it, and of the others those that it had
with_one : (f : NamedRule → Bool) (r : NamedRule) → with_rule (rules_where f) r ≡ rules_where (or_rule f r)
with_one f (Portable RasterFirst) = refl
with_one f (Portable _) = refl
with_one f (Asked RasterLate) = refl
with_one f (Asked _) = refl

either : (b c : Bool) → cond b true c ≡ (c || b)
either true true = refl
either true false = refl
either false true = refl
either false false = refl

-- no rule of portable pictures has the number of one that named terminals ask for
unlike : (r : Rule) (q : AskedRule) → (number_of r == asked.number_of q) ≡ false
unlike r q =
    let most = at_most_last r in
    let least = at_least q in
    ne_eqb (number_of r) (asked.number_of q) (λ same. omega (arith, most, least, same))

unlike_asked : (q : AskedRule) (r : Rule) → (asked.number_of q == number_of r) ≡ false
unlike_asked q r =
    let most = at_most_last r in
    let least = at_least q in
    ne_eqb (asked.number_of q) (number_of r) (λ same. omega (arith, most, least, same))

portable_or : (entries : List Entry) (i : ℕ) (d : Entry) → i < length entries → (rule : NamedRule)
    → or_rule (is_listed (take i entries) []) (Portable (get_or entries i d).rule) rule
    ≡ is_listed (take (i + 1) entries) [] rule
portable_or entries i d short (Portable rule) =
    either (number_of (get_or entries i d).rule == number_of rule) (is_listed (take i entries) [] (Portable rule))
    ∙ sym (list_any_more (λ (e : Entry). number_of e.rule == number_of rule) entries i d short)
portable_or entries i d short (Asked rule) = rw (unlike (get_or entries i d).rule rule) refl

-- the rules of the first entries, and that of the next one
pub portable_more : (entries : List Entry) (i : ℕ) (d : Entry) (before after : RuleSet) → i < length entries
    → before ≡ rules_of (take i entries) [] → after ≡ with_rule before (Portable (get_or entries i d).rule)
    → after ≡ rules_of (take (i + 1) entries) []
portable_more entries i d before after short is more =
    let r = Portable (get_or entries i d).rule in
    more ∙ ap (λ (set : RuleSet). with_rule set r) is ∙ with_one (is_listed (take i entries) []) r
    ∙ same_where (or_rule (is_listed (take i entries) []) r) (is_listed (take (i + 1) entries) [])
    (portable_or entries i d short)

asked_or : (entries : List Entry) (more : List AskedEntry) (i : ℕ) (d : AskedEntry) → i < length more
    → (rule : NamedRule)
    → or_rule (is_listed entries (take i more)) (Asked (get_or more i d).rule) rule
    ≡ is_listed entries (take (i + 1) more) rule
asked_or entries more i d short (Portable rule) = rw (unlike_asked (get_or more i d).rule rule) refl
asked_or entries more i d short (Asked rule) =
    either (asked.number_of (get_or more i d).rule == asked.number_of rule)
    (is_listed entries (take i more) (Asked rule))
    ∙ sym (list_any_more (λ (e : AskedEntry). asked.number_of e.rule == asked.number_of rule) more i d short)

-- the same of the rules that named terminals ask for, behind those of some entries
pub asked_more : (entries : List Entry) (more : List AskedEntry) (i : ℕ) (d : AskedEntry) (before after : RuleSet)
    → i < length more → before ≡ rules_of entries (take i more)
    → after ≡ with_rule before (Asked (get_or more i d).rule) → after ≡ rules_of entries (take (i + 1) more)
asked_more entries more i d before after short is next =
    let r = Asked (get_or more i d).rule in
    next ∙ ap (λ (set : RuleSet). with_rule set r) is ∙ with_one (is_listed entries (take i more)) r
    ∙ same_where (or_rule (is_listed entries (take i more)) r) (is_listed entries (take (i + 1) more))
    (asked_or entries more i d short)
