-- What is found wrong, each once: there is room for all.
use Rattle.std.proofs.Common.{◌≡◌, ◌∙◌, ◌++◌, ◌∷◌, ◌<◌, ◌+◌, ℕ, true, false, List, [], ap, arith, get_or, length, map}
use Rattle.std.proofs.Common.{refl, Bool, cond, filter, sym, take}
use Rattle.std.proofs.lemmas.List.{length-append, map-append, take_more}
use Rattle.std.proofs.lemmas.List.Folds.{list_any-append, list_any_at}
use Rattle.std.proofs.lemmas.List.Elements.{filter_more}
use Rattle.std.proofs.lemmas.List.Sums.{fold-append}
use Rattle.std.specs.List.{IsDistinct, list_any}
use Rattle.std.specs.Prelude.{Result, Ok}
use Rattle.std.specs.Cmp.{IsEquivalence}
use Rattle.std.specs.Cmp.Lexicographic.{nat_list_eq_equiv}
use Rattle.std.proofs.lemmas.Map.Keys.{IsDistinct-push}
use Rattle.std.proofs.lemmas.Map.Made.{length-le_from_is_member}
use Rattle.sixel_grammar.specs.declared.fault.Reason.TheVariants as reason
use Rattle.sixel_model.specs.declared.rule.Rule.TheVariants as rule
use Rattle.sixel_emulator_rules.specs.declared.rule.AskedRule.TheVariants as asked
use Rattle.sixel_emulator_rules.specs.declared.terminals.Terminals.{Terminals}
use Rattle.sixel_emulator_check.specs.declared.rule.NamedRule.{NamedRule}
use Rattle.sixel_emulator_check.specs.declared.rule.NamedRule.TheVariants.{Portable, Asked}
use Rattle.sixel_messages.specs.declared.hints.Cause.{Cause}
use Rattle.sixel_messages.specs.declared.hints.Cause.TheVariants.{Refusal, Rule}
use Rattle.sixel_io.specs.Devices.{SinkState, change}
use Rattle.sixel_report.specs.Texts.{Text}
use Rattle.sixel_report.specs.Exits.{IsPut}
use Rattle.sixel_messages.specs.Puts.{ArePut}
use Rattle.sixel_model.specs.declared.profile.Profile.{Profile}
use Rattle.sixel_report.specs.declared.task.Task.{Task}
use Rattle.sixel_report.specs.declared.task.Task.TheVariants.{Check, Survey}
use Rattle.sixel_report.specs.RuleSets.{rules_in}
use Rattle.sixel_report.specs.declared.fault.RunFault.{RunFault}
use Rattle.sixel_report.specs.declared.rule_set.RuleSet.{RuleSet}
use Rattle.sixel_report.specs.declared.task.Status.{Status}
use Rattle.sixel_report.specs.declared.task.Status.TheVariants.{Surveyed}
use Rattle.sixel_emulator_check.specs.declared.verdict.NamedFinding.{NamedFinding}
use Rattle.sixel_emulator_check.specs.Rules.{rule_of}
use Rattle.sixel_messages.specs.Hints.{cause_name, causes_in, hints_of, is_same, with_cause, with_causes}
use Rattle.sixel_messages.proofs.PutsLemmas.{one_put, put_then}

same_equivalence : IsEquivalence is_same
same_equivalence = record {
  refl = λ a. nat_list_eq_equiv.refl (cause_name a);
  symm = λ a b. nat_list_eq_equiv.symm (cause_name a) (cause_name b);
  congr = λ a b c same. nat_list_eq_equiv.congr (cause_name a) (cause_name b) (cause_name c) same;
}

-- all that can be found wrong
all_causes : List Cause
all_causes = Rule (Portable rule.RasterFirst) ∷ Rule (Portable rule.RasterTwice) ∷ Rule (Portable rule.Ratio)
    ∷ Rule (Portable rule.BoxSize) ∷ Rule (Portable rule.Register) ∷ Rule (Portable rule.ColourValue)
    ∷ Rule (Portable rule.RepeatZero) ∷ Rule (Portable rule.Unselected) ∷ Rule (Portable rule.Undefined)
    ∷ Rule (Portable rule.Redefined) ∷ Rule (Portable rule.Outside) ∷ Rule (Portable rule.Uncovered)
    ∷ Rule (Portable rule.EightBit) ∷ Rule (Asked asked.RasterLate) ∷ Rule (Asked asked.Dropped)
    ∷ Rule (Asked asked.Stale) ∷ Rule (Asked asked.Large) ∷ Rule (Asked asked.Rows) ∷ Rule (Asked asked.Past)
    ∷ Rule (Asked asked.Hue) ∷ Rule (Asked asked.Far) ∷ Rule (Asked asked.Introducer) ∷ Rule (Asked asked.Bare)
    ∷ Rule (Asked asked.SpaceAfter) ∷ Refusal reason.NotSixel ∷ Refusal reason.BadByte ∷ Refusal reason.NumberTooLarge
    ∷ Refusal reason.FieldCount ∷ Refusal reason.BadRepeat ∷ Refusal reason.BadTerminator ∷ Refusal reason.Truncated ∷ Refusal reason.TooLong ∷ Refusal reason.Trailing ∷ []

is_one_of_all : (cause : Cause) → list_any (is_same cause) all_causes ≡ true
unfolding all_causes
is_one_of_all (Rule (Portable rule.RasterFirst)) = refl
is_one_of_all (Rule (Portable rule.RasterTwice)) = refl
is_one_of_all (Rule (Portable rule.Ratio)) = refl
is_one_of_all (Rule (Portable rule.BoxSize)) = refl
is_one_of_all (Rule (Portable rule.Register)) = refl
is_one_of_all (Rule (Portable rule.ColourValue)) = refl
is_one_of_all (Rule (Portable rule.RepeatZero)) = refl
is_one_of_all (Rule (Portable rule.Unselected)) = refl
is_one_of_all (Rule (Portable rule.Undefined)) = refl
is_one_of_all (Rule (Portable rule.Redefined)) = refl
is_one_of_all (Rule (Portable rule.Outside)) = refl
is_one_of_all (Rule (Portable rule.Uncovered)) = refl
is_one_of_all (Rule (Portable rule.EightBit)) = refl
is_one_of_all (Rule (Asked asked.RasterLate)) = refl
is_one_of_all (Rule (Asked asked.Dropped)) = refl
is_one_of_all (Rule (Asked asked.Stale)) = refl
is_one_of_all (Rule (Asked asked.Large)) = refl
is_one_of_all (Rule (Asked asked.Rows)) = refl
is_one_of_all (Rule (Asked asked.Past)) = refl
is_one_of_all (Rule (Asked asked.Hue)) = refl
is_one_of_all (Rule (Asked asked.Far)) = refl
is_one_of_all (Rule (Asked asked.Introducer)) = refl
is_one_of_all (Rule (Asked asked.Bare)) = refl
is_one_of_all (Rule (Asked asked.SpaceAfter)) = refl
is_one_of_all (Refusal reason.NotSixel) = refl
is_one_of_all (Refusal reason.BadByte) = refl
is_one_of_all (Refusal reason.NumberTooLarge) = refl
is_one_of_all (Refusal reason.FieldCount) = refl
is_one_of_all (Refusal reason.BadRepeat) = refl
is_one_of_all (Refusal reason.BadTerminator) = refl
is_one_of_all (Refusal reason.Truncated) = refl
is_one_of_all (Refusal reason.TooLong) = refl
is_one_of_all (Refusal reason.Trailing) = refl

pub no_causes : (causes : List Cause) → causes ≡ [] → IsDistinct is_same causes
unfolding IsDistinct
no_causes causes none = rw none tt

-- one more that isn't there leaves no two the same
pub distinct_more : (causes : List Cause) (cause : Cause) → IsDistinct is_same causes
    → list_any (is_same cause) causes ≡ false → IsDistinct is_same (causes ++ cause ∷ [])
distinct_more causes cause distinct absent = IsDistinct-push same_equivalence causes cause distinct absent

-- and so there was room for it
pub has_room : (causes : List Cause) (cause : Cause) → IsDistinct is_same causes
    → list_any (is_same cause) causes ≡ false → length causes < 33
unfolding all_causes
has_room causes cause distinct absent =
    let few = length-le_from_is_member same_equivalence (causes ++ cause ∷ []) all_causes
    (distinct_more causes cause distinct absent) (λ q has. is_one_of_all q) in
    omega (arith, few, length-append causes (cause ∷ []))

-- a rule more, if it is kept
one_kept : (kept : Bool) (r : NamedRule) (causes : List Cause)
    → with_causes causes (map Rule (cond kept (r ∷ []) [])) ≡ cond kept (with_cause causes (Rule r)) causes
one_kept true r causes = refl
one_kept false r causes = refl

-- with those of the first rules that are kept, and then with the next one if it is kept
each_more : (keeps : NamedRule → Bool) (causes : List Cause) (rules : List NamedRule) (i : ℕ) (d : NamedRule)
    → i < length rules
    → with_causes causes (map Rule (filter keeps (take (i + 1) rules)))
    ≡ cond (keeps (get_or rules i d))
    (with_cause (with_causes causes (map Rule (filter keeps (take i rules)))) (Rule (get_or rules i d)))
    (with_causes causes (map Rule (filter keeps (take i rules))))
each_more keeps causes rules i d short =
    let r = get_or rules i d in
    let before = filter keeps (take i rules) in
    ap (λ (rs : List NamedRule). with_causes causes (map Rule rs)) (filter_more keeps rules i d short)
    ∙ ap (with_causes causes) (map-append Rule before (cond (keeps r) (r ∷ []) []))
    ∙ fold-append with_cause causes (map Rule before) (map Rule (cond (keeps r) (r ∷ []) []))
    ∙ one_kept (keeps r) r (with_causes causes (map Rule before))

-- the next rule is kept, and its cause was added
pub kept_next : (keeps : NamedRule → Bool) (causes : List Cause) (rules : List NamedRule) (i : ℕ) (d : NamedRule)
    (before after : List Cause) → i < length rules → keeps (get_or rules i d) ≡ true
    → before ≡ with_causes causes (map Rule (filter keeps (take i rules)))
    → after ≡ with_cause before (Rule (get_or rules i d))
    → after ≡ with_causes causes (map Rule (filter keeps (take (i + 1) rules)))
kept_next keeps causes rules i d before after short kept is more =
    more ∙ ap (λ (cs : List Cause). with_cause cs (Rule (get_or rules i d))) is
    ∙ sym (rw kept at (each_more keeps causes rules i d short))

-- the next rule isn't kept
pub passed_over : (keeps : NamedRule → Bool) (causes : List Cause) (rules : List NamedRule) (i : ℕ) (d : NamedRule)
    (before : List Cause) → i < length rules → keeps (get_or rules i d) ≡ false
    → before ≡ with_causes causes (map Rule (filter keeps (take i rules)))
    → before ≡ with_causes causes (map Rule (filter keeps (take (i + 1) rules)))
passed_over keeps causes rules i d before short other is =
    is ∙ sym (rw other at (each_more keeps causes rules i d short))

-- of a survey the rule that is broken first was added, and then each other one
pub noted_survey : (answer : Result Status RunFault) (status : Status) (first : NamedFinding) (rules : RuleSet)
    (found : NamedRule) (before one all : List Cause) → answer ≡ Ok status → status ≡ Surveyed first rules
    → found ≡ rule_of first → one ≡ with_cause before (Rule found)
    → all ≡ with_causes one (map Rule (rules_in rules)) → all ≡ with_causes before (causes_in answer)
noted_survey answer status first rules found before one all is surveyed named added each =
    each
    ∙ ap (λ (causes : List Cause). with_causes causes (map Rule (rules_in rules)))
    (added ∙ ap (λ (r : NamedRule). with_cause before (Rule r)) named)
    ∙ sym (ap (λ (a : Result Status RunFault). with_causes before (causes_in a)) is
    ∙ ap (λ (a : Status). with_causes before (causes_in (Ok a))) surveyed)

-- none of the first causes is the same, nor is the next one
pub none_more : (cause : Cause) (causes : List Cause) (i : ℕ) (d : Cause) → i < length causes
    → list_any (is_same cause) (take i causes) ≡ false → is_same cause (get_or causes i d) ≡ false
    → list_any (is_same cause) (take (i + 1) causes) ≡ false
none_more cause causes i d short none other =
    ap (list_any (is_same cause)) (take_more causes i d short)
    ∙ list_any-append (is_same cause) (take i causes) (get_or causes i d ∷ []) ∙ rw (none, other) refl

-- one of them is
pub found_at : (cause : Cause) (causes : List Cause) (i : ℕ) (d : Cause) → i < length causes
    → is_same cause (get_or causes i d) ≡ true → true ≡ list_any (is_same cause) causes
found_at cause causes i d short same = sym (list_any_at (is_same cause) causes i d short same)

-- the lines of the first causes were put, and that of the next one
pub puts_more : (line : Cause → Text) (causes : List Cause) (i : ℕ) (d : Cause) (a b c : SinkState)
    → i < length causes → ArePut (map line (take i causes)) (change a b)
    → IsPut (line (get_or causes i d)) (change b c) → ArePut (map line (take (i + 1) causes)) (change a c)
puts_more line causes i d a b c short are more =
    rw (ap (map line) (take_more causes i d short) ∙ map-append line (take i causes) (get_or causes i d ∷ []))
    (put_then (map line (take i causes)) (line (get_or causes i d) ∷ []) a b c are
    (one_put (line (get_or causes i d)) b c more))

-- neither a check nor a survey: there are no hints
pub no_hints : (t : Task) (causes : List Cause)
    → ((profile : Profile) (named : Terminals) → t ≡ Check profile named → ⊥)
    → ((profile : Profile) (named : Terminals) → t ≡ Survey profile named → ⊥) → hints_of t causes ≡ []
no_hints (Check profile named) causes unchecked unsurveyed = absurd (unchecked profile named refl)
no_hints (Survey profile named) causes unchecked unsurveyed = absurd (unsurveyed profile named refl)
no_hints t causes unchecked unsurveyed = refl
