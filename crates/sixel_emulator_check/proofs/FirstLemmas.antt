-- The first broken rule, of those of portable pictures and of those that are asked for.
use Rattle.std.proofs.Common.{◌≡◌, ◌∙◌, ◌<◌, ◌≤◌, inl, inr, ℕ, Some, None, List, arith, subst, sym, take}
use Rattle.std.specs.Prelude.{IsTrue}
use Rattle.std.proofs.Math.Nat.{eq-or-lt_of_le}
use Rattle.sixel_grammar.specs.Document.{Document, events_of}
use Rattle.sixel_grammar.specs.declared.command.Event.{Event}
use Rattle.sixel_grammar.specs.declared.command.Placed.{Placed}
use Rattle.sixel_model.specs.Positions.{HoldsAtPosition}
use Rattle.sixel_model.specs.Rules.{Breaks, BreaksNone, last_rule}
use Rattle.sixel_model.specs.declared.rule.Rule.{Rule}
use Rattle.sixel_model.proofs.RuleLemmas.{nowhere}
use Rattle.sixel_judge.specs.Verdicts.{IsFinding}
use Rattle.sixel_judge.specs.declared.verdict.Finding.{Finding}
use Rattle.sixel_judge.proofs.AlarmLemmas.{taken_get, taken_there, taken_twice}
use Rattle.sixel_judge.proofs.OptionLemmas.{same_value}
use Rattle.sixel_survey.proofs.PlaceLemmas.{later_place, place_at}
use Rattle.sixel_emulator_rules.specs.Asked.{BreaksAsked, BreaksNoneAsked, is_asked}
use Rattle.sixel_emulator_rules.specs.Asking.{IsAnswer, IsFindingAt}
use Rattle.sixel_emulator_rules.specs.declared.asking.AskedFinding.{AskedFinding}
use Rattle.sixel_emulator_rules.specs.declared.rule.AskedRule.{AskedRule}
use Rattle.sixel_emulator_rules.specs.declared.terminals.Terminals.{Terminals}
use Rattle.sixel_emulator_rules.proofs.LawLemmas.{first_is_exact, names_within, none_is_earlier}
use Rattle.sixel_emulator_check.specs.Verdicts.{IsAskedOn, IsFindingOn}

-- ---- the first events of a list

-- what holds at one of the first events holds there in the list
held_there : (P : List Event → Event → Type 0) (k j : ℕ) (events : List Event)
    → HoldsAtPosition P (take k events) j → (j < k) × HoldsAtPosition P events j
held_there P k j events h =
    let there = taken_there k j events h.item h.here in
    let low : j < k = there.0 in (
      low,
      record {
        item = h.item;
        here = there.1;
        holds = subst (λ (l : List Event). P l h.item) (taken_twice j k events (omega (arith, low))) h.holds;
      },
    )

-- and back
held_first : (P : List Event → Event → Type 0) (k j : ℕ) (events : List Event) → j < k → HoldsAtPosition P events j
    → HoldsAtPosition P (take k events) j
held_first P k j events lt h = record {
  item = h.item;
  here = taken_get k j events lt ∙ h.here;
  holds = subst (λ (l : List Event). P l h.item) (sym (taken_twice j k events (omega (arith, lt)))) h.holds;
}

-- if no rule is broken before position k, the first k events break none
unbroken_first : (registers k : ℕ) (events : List Event)
    → ((m : Rule) (j : ℕ) → j < k → ¬ HoldsAtPosition (Breaks registers m) events j)
    → BreaksNone registers last_rule (take k events)
unfolding BreaksNone
unbroken_first registers k events none m le j h =
    let there = held_there (Breaks registers m) k j events h in none m j there.0 there.1

-- if the first k events break no rule that is asked for, none is broken before position k
unasked_before : (t : Terminals) (k : ℕ) (events : List Event) → BreaksNoneAsked t (take k events)
    → (m : AskedRule) (j : ℕ) → j < k → IsTrue (is_asked t m) → ¬ HoldsAtPosition (BreaksAsked m) events j
unasked_before t k events none m j lt asked h = none m asked j (held_first (BreaksAsked m) k j events lt h)

-- ---- a rule of portable pictures comes first

found_before : (registers k : ℕ) {placed : List Placed} {f : Finding} {i : ℕ} → k ≤ i
    → IsFinding registers placed f i → BreaksNone registers last_rule (take k (events_of placed))
found_before registers k {placed} le is =
    unbroken_first registers k (events_of placed) (λ m j lt. is.first.none_earlier m j (omega (arith, lt, le)))

-- nothing is found that is asked for
pub broken_alone : (registers : ℕ) (t : Terminals) (placed : List Placed) (f : Finding) (i : ℕ) → registers ≤ 256
    → IsFinding registers placed f i → IsAnswer t placed None → IsFindingOn registers t placed f i
broken_alone registers t placed f i few is answer = record {
  finding = is;
  none_asked_earlier = unasked_before t i (events_of placed)
      (answer i (names_within registers _ few (found_before registers i (omega arith) is)));
}

-- what is found has no smaller place
pub broken_first : (registers : ℕ) (t : Terminals) (placed : List Placed) (bytes : List ℕ) (f : Finding) (i : ℕ)
    (a : AskedFinding) (k : ℕ) → registers ≤ 256 → Document placed bytes → IsFinding registers placed f i
    → IsFindingAt t placed a k → ¬ (a.place < f.place) → IsFindingOn registers t placed f i
broken_first registers t placed bytes f i a k few document is found late =
    let not_before : ¬ (k < i) = λ lt. late (later_place document k i a.place f.place lt found.place is.place) in
    record {
      finding = is;
      none_asked_earlier = unasked_before t i (events_of placed)
          (none_is_earlier registers t placed a k i few (omega (arith, not_before))
          (found_before registers i (omega arith) is) found);
    }

-- ---- a rule that is asked for comes first

-- no rule of portable pictures is broken
pub asked_alone : (registers : ℕ) (t : Terminals) (placed : List Placed) (a : AskedFinding) (k : ℕ) → registers ≤ 256
    → BreaksNone registers last_rule (events_of placed) → IsFindingAt t placed a k → IsAskedOn registers t placed a k
asked_alone registers t placed a k few none found = record {
  first = first_is_exact registers t placed a k few
      (unbroken_first registers k (events_of placed) (λ m j lt. nowhere registers m j (events_of placed) none)) found;
  place = found.place;
  none_broken = λ m j le. nowhere registers m j (events_of placed) none;
}

-- the event of a smaller place comes before
place_before : {placed : List Placed} {bytes : List ℕ} (i k p q : ℕ) → Document placed bytes
    → place_at placed i ≡ Some p → place_at placed k ≡ Some q → q < p → k < i
place_before {placed} i k p q document here there lt =
    let late : ¬ (i ≤ k) = λ le. elim (eq-or-lt_of_le le) [
      | inl same ↦
          let one : p ≡ q = same_value (place_at placed k) p q
          (subst (λ (n : ℕ). place_at placed n ≡ Some p) same here) there in
          omega (arith, one, lt)
      | inr less ↦
          let more : p < q = later_place document i k p q less here there in omega (arith, more, lt)
    ] in
    omega (arith, late)

-- the first broken one has a greater place
pub asked_first : (registers : ℕ) (t : Terminals) (placed : List Placed) (bytes : List ℕ) (f : Finding) (i : ℕ)
    (a : AskedFinding) (k : ℕ) → registers ≤ 256 → Document placed bytes → IsFinding registers placed f i
    → IsFindingAt t placed a k → a.place < f.place → IsAskedOn registers t placed a k
asked_first registers t placed bytes f i a k few document is found early =
    let before : k < i = place_before i k f.place a.place document is.place found.place early in
    record {
      first = first_is_exact registers t placed a k few (found_before registers k (omega (arith, before)) is) found;
      place = found.place;
      none_broken = λ m j le. is.first.none_earlier m j (omega (arith, le, before));
    }
