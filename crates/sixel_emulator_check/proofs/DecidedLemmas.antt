-- Rules that named terminals ask for: an event breaks one, or it doesn't; some event is the first to break one, or none
-- does.
use Rattle.std.proofs.Common.{◌≡◌, ◌∙◌, ◌<◌, ◌⊎◌, ℕ, Bool, true, false, inl, inr, Option, Some, None, List, length}
use Rattle.std.proofs.Common.{ap, refl, subst, sym}
use Rattle.std.specs.Prelude.{◌&&◌, IsTrue, slice_get}
use Rattle.std.specs.List.{find}
use Rattle.std.proofs.lemmas.Bool.{and_from, and_parts, cases_eq}
use Rattle.sixel_grammar.specs.declared.command.Event.{Event}
use Rattle.sixel_model.specs.declared.colour.Parts.{Parts}
use Rattle.sixel_model.specs.declared.colour.Parts.TheVariants.{Rgb, Hls}
use Rattle.sixel_model.specs.Events.{is_painting}
use Rattle.sixel_model.specs.Positions.{HoldsAtPosition}
use Rattle.sixel_model.specs.Rules.{colour_of, known}
use Rattle.sixel_model.proofs.PositionLemmas.{holds_within}
use Rattle.sixel_judge.specs.Counting.{is_below}
use Rattle.sixel_judge.proofs.DecideLemmas.{both_decided}
use Rattle.sixel_judge.proofs.SearchLemmas.{Decided, LeastBelow, decide_true, least_below}
use Rattle.sixel_survey.proofs.OneSurveyLemmas.{item_decided, yes, yes_is}
use Rattle.sixel_emulator_rules.specs.Asked.{BreaksAsked, BreaksNoneAsked, IsFirstAsked, is_asked}
use Rattle.sixel_emulator_rules.specs.Counts.{in_order}
use Rattle.sixel_emulator_rules.specs.Stale.{IsStale, colour_at_select}
use Rattle.sixel_emulator_rules.specs.Tallies.{CountsAsked}
use Rattle.sixel_emulator_rules.specs.declared.rule.AskedRule.{AskedRule}
use Rattle.sixel_emulator_rules.specs.declared.rule.AskedRule.TheVariants.{Stale, Bare, SpaceAfter}
use Rattle.sixel_emulator_rules.specs.declared.terminals.Terminals.{Terminals}
use Rattle.sixel_emulator_rules.proofs.FirstLemmas.{first_is_least, first_passes, none_passes}

-- ---- one event

unfoldable pub numbers_decided : (a b c d e f : ℕ) → Decided ((a ≡ d) × ((b ≡ e) × (c ≡ f)))
numbers_decided a b c d e f =
    both_decided _ _ (cases_eq a d) (both_decided _ _ (cases_eq b e) (cases_eq c f))

unfoldable pub colour_decided : (c d : Parts) → Decided (c ≡ d)
colour_decided (Rgb a b c) (Rgb d e f) = elim (numbers_decided a b c d e f) [
  | inl same ↦ inl (cc (same.0, same.1.0, same.1.1))
  | inr not ↦ inr (λ s. not (cc, (cc, cc)))
]
colour_decided (Hls a b c) (Hls d e f) = elim (numbers_decided a b c d e f) [
  | inl same ↦ inl (cc (same.0, same.1.0, same.1.1))
  | inr not ↦ inr (λ s. not (cc, (cc, cc)))
]
colour_decided (Rgb a b c) (Hls d e f) = inr (λ s. cc)
colour_decided (Hls a b c) (Rgb d e f) = inr (λ s. cc)

unfoldable pub colours_decided : (a b : Option Parts) → Decided (a ≡ b)
colours_decided None None = inl refl
colours_decided None (Some d) = inr (λ h. cc)
colours_decided (Some c) None = inr (λ h. cc)
colours_decided (Some c) (Some d) = elim (colour_decided c d) [
  | inl same ↦ inl (ap (λ (x : Parts). Some x) same)
  | inr not ↦ inr (λ h. let same : c ≡ d = cc in not same)
]

unfoldable pub stale_at : (before : List Event) (e : Event) (o : Option ℕ) → known before ≡ o → IsTrue (is_painting e)
    → Decided (IsStale before e)
stale_at before e None is paints = inr (λ (s : IsStale before e).
    let bad : Some s.register ≡ None = sym s.is_known ∙ is in cc)
stale_at before e (Some r) is paints = elim (colours_decided (colour_of before r) (colour_at_select before r)) [
  | inl same ↦ inr (λ (s : IsStale before e).
      let both : Some s.register ≡ Some r = sym s.is_known ∙ is in
      let one : r ≡ s.register = cc in
      s.differs (subst (λ (q : ℕ). colour_of before q ≡ colour_at_select before q) one same))
  | inr not ↦ inl (record { register = r; painting = paints; is_known = is; differs = not })
]

unfoldable pub stale_decided : (before : List Event) (e : Event) → Decided (IsStale before e)
stale_decided before e = elim (decide_true (is_painting e)) [
  | inl paints ↦ stale_at before e (known before) refl paints
  | inr not ↦ inr (λ (s : IsStale before e). not s.painting)
]

unfoldable pub breaks_decided : (rule : AskedRule) (before : List Event) (e : Event) → Decided (BreaksAsked rule before e)
breaks_decided Stale before e = stale_decided before e
breaks_decided Bare before e = inr (λ h. h)
breaks_decided SpaceAfter before e = inr (λ h. h)
breaks_decided _ before e = decide_true _

unfoldable pub counts_decided : (rule : AskedRule) (before : List Event) (e : Event)
    → Decided (CountsAsked rule before e)
counts_decided Stale before e =
    both_decided _ _ (stale_decided before e) (decide_true (is_below 256 (known before)))
counts_decided Bare before e = inr (λ h. h)
counts_decided SpaceAfter before e = inr (λ h. h)
counts_decided _ before e = decide_true _

-- ---- the rules at one position

unfoldable pub breaks_at : (events : List Event) (i : ℕ) (rule : AskedRule)
    → Decided (HoldsAtPosition (BreaksAsked rule) events i)
breaks_at events i rule = item_decided (BreaksAsked rule) (breaks_decided rule) events i (slice_get events i) refl

-- whether the rule is asked for and broken there
unfoldable pub asks_at : Terminals → List Event → ℕ → AskedRule → Bool
asks_at t events i rule = is_asked t rule && yes (breaks_at events i rule)

asks_from : (t : Terminals) (events : List Event) (i : ℕ) (rule : AskedRule) → IsTrue (is_asked t rule)
    → HoldsAtPosition (BreaksAsked rule) events i → asks_at t events i rule ≡ true
unfolding asks_at
asks_from t events i rule asked h = and_from (is_asked t rule) _ asked ((yes_is (breaks_at events i rule)).1 h)

asks_parts : (t : Terminals) (events : List Event) (i : ℕ) (rule : AskedRule) → asks_at t events i rule ≡ true
    → IsTrue (is_asked t rule) × HoldsAtPosition (BreaksAsked rule) events i
unfolding asks_at
asks_parts t events i rule h =
    let parts = and_parts (is_asked t rule) (yes (breaks_at events i rule)) h in
    (parts.0, (yes_is (breaks_at events i rule)).0 parts.1)

-- a rule is asked for and broken there; this one has the smallest number
abbrev pub FirstAt : Terminals → List Event → ℕ → Type 0
FirstAt t events i = (rule : AskedRule) × (find (asks_at t events i) in_order ≡ Some rule)

unfoldable pub first_at_by : (t : Terminals) (events : List Event) (i : ℕ) (o : Option AskedRule)
    → find (asks_at t events i) in_order ≡ o → Decided (FirstAt t events i)
first_at_by t events i None is = inr (λ (h : FirstAt t events i).
    let bad : Some h.0 ≡ None = sym h.1 ∙ is in cc)
first_at_by t events i (Some rule) is = inl (rule, is)

unfoldable pub first_at : (t : Terminals) (events : List Event) (i : ℕ) → Decided (FirstAt t events i)
first_at t events i = first_at_by t events i (find (asks_at t events i) in_order) refl

some_at_by : (t : Terminals) (events : List Event) (i : ℕ) (rule : AskedRule) (o : Option AskedRule)
    → find (asks_at t events i) in_order ≡ o → asks_at t events i rule ≡ true → FirstAt t events i
some_at_by t events i rule None is h =
    let no : asks_at t events i rule ≡ false = none_passes (asks_at t events i) rule is in cc
some_at_by t events i rule (Some first) is h = (first, is)

some_at : (t : Terminals) (events : List Event) (i : ℕ) (rule : AskedRule) → IsTrue (is_asked t rule)
    → HoldsAtPosition (BreaksAsked rule) events i → FirstAt t events i
some_at t events i rule asked h =
    some_at_by t events i rule (find (asks_at t events i) in_order) refl (asks_from t events i rule asked h)

-- ---- the first event that breaks a rule

first_asked : (t : Terminals) (events : List Event) (f : LeastBelow (FirstAt t events) (length events))
    → IsFirstAsked t events f.holds.0 f.number
first_asked t events f =
    let test : AskedRule → Bool = asks_at t events f.number in
    let rule : AskedRule = f.holds.0 in
    let parts = asks_parts t events f.number rule (first_passes test rule f.holds.1) in
    record {
      asked = parts.0;
      broken = parts.1;
      none_earlier = λ m j lt asked h. f.least j lt (some_at t events j m asked h);
      none_smaller = λ m lt asked h.
          let no : asks_at t events f.number m ≡ false = first_is_least test rule m f.holds.1 lt in
          let also : asks_at t events f.number m ≡ true = asks_from t events f.number m asked h in
          cc;
    }

pub asked_or_none : (t : Terminals) (events : List Event)
    → ((i : ℕ) × (i < length events) × (rule : AskedRule) × IsFirstAsked t events rule i) ⊎ BreaksNoneAsked t events
asked_or_none t events = elim (least_below (FirstAt t events) (first_at t events) (length events)) [
  | inl f ↦ inl (f.number, f.below, f.holds.0, first_asked t events f)
  | inr none ↦ inr (λ rule asked i h.
      none i (holds_within (BreaksAsked rule) events i h) (some_at t events i rule asked h))
]
