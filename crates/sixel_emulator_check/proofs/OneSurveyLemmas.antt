-- A list of events has exactly one survey for named terminals.
use Rattle.std.proofs.Common.{◌≡◌, ◌∙◌, ◌<◌, ℕ, inl, inr, Option, Some, None, List, length}
use Rattle.std.proofs.Common.{ap, arith, refl, subst, sym}
use Rattle.std.specs.Prelude.{IsTrue, filter, filter_map, slice_get}
use Rattle.std.specs.List.{range_with_len}
use Rattle.std.proofs.lemmas.List.{length-map}
use Rattle.sixel_grammar.specs.declared.command.Event.{Event}
use Rattle.sixel_grammar.specs.declared.command.Placed.{Placed}
use Rattle.sixel_grammar.specs.Document.{events_of}
use Rattle.sixel_model.specs.Positions.{HoldsAtPosition}
use Rattle.sixel_model.specs.Rules.{all_rules, picture_left}
use Rattle.sixel_model.proofs.PositionLemmas.{holds_within}
use Rattle.sixel_model.specs.declared.rule.Rule.{Rule}
use Rattle.sixel_judge.proofs.DecideLemmas.{place_of}
use Rattle.sixel_judge.proofs.OptionLemmas.{same_value}
use Rattle.sixel_judge.proofs.SearchLemmas.{Decided, decide_true, least_below}
use Rattle.sixel_survey.specs.Counting.{HoldsOften}
use Rattle.sixel_survey.specs.declared.entry.Entry.{Entry}
use Rattle.sixel_survey.proofs.OneSurveyLemmas.{entries_once, entry_exists, holds_once, item_decided, kept_same, yes}
use Rattle.sixel_survey.proofs.OneSurveyLemmas.{yes_is}
use Rattle.sixel_survey.proofs.PlaceLemmas.{place_at}
use Rattle.sixel_emulator_rules.specs.Asked.{is_asked}
use Rattle.sixel_emulator_rules.specs.Counts.{in_order}
use Rattle.sixel_emulator_rules.specs.Tallies.{AreAskedEntries, CountsAsked, IsAskedEntryAt, IsAskedEntryOf}
use Rattle.sixel_emulator_rules.specs.declared.rule.AskedRule.{AskedRule}
use Rattle.sixel_emulator_rules.specs.declared.tally.AskedEntry.{AskedEntry}
use Rattle.sixel_emulator_rules.specs.declared.terminals.Terminals.{Terminals}
use Rattle.sixel_emulator_check.specs.Surveys.{IsSurveyOn, size_without}
use Rattle.sixel_emulator_check.specs.declared.surveying.NamedSurvey.{NamedSurvey}
use Rattle.sixel_emulator_check.proofs.DecidedLemmas.{counts_decided}

-- ---- at most one

make : AskedRule → ℕ → ℕ → AskedEntry
make rule count place = record { rule = rule; count = count; place = place }

entry_at_once : {placed : List Placed} {e d : AskedEntry} {i j : ℕ} → e.rule ≡ d.rule
    → IsAskedEntryAt placed e i → IsAskedEntryAt placed d j → e ≡ d
unfolding make
entry_at_once {placed} {e} {d} {i} {j} rule at other =
    let first : IsAskedEntryAt placed (make d.rule e.count e.place) i =
    subst (λ (r : AskedRule). IsAskedEntryAt placed (make r e.count e.place) i) rule at in
    let not_before : ¬ (i < j) = λ lt. other.none_earlier i lt first.counts in
    let not_after : ¬ (j < i) = λ lt. first.none_earlier j lt other.counts in
    let same : i ≡ j = omega (arith, not_before, not_after) in
    let there : IsAskedEntryAt placed (make d.rule e.count e.place) j =
    subst (IsAskedEntryAt placed (make d.rule e.count e.place)) same first in
    let place : e.place ≡ d.place = same_value (place_at placed j) e.place d.place there.place other.place in
    let often : e.count ≡ d.count = holds_once (CountsAsked d.rule) there.often other.often in
    let whole : make e.rule e.count e.place ≡ make d.rule d.count d.place = cc (rule, often, place) in
    whole

-- an entry of the rule counts it there
counted : {placed : List Placed} {rule : AskedRule} {e : AskedEntry} {i : ℕ} → e.rule ≡ rule → IsAskedEntryAt placed e i
    → HoldsAtPosition (CountsAsked rule) (events_of placed) i
counted {placed} {i} same at =
    subst (λ (r : AskedRule). HoldsAtPosition (CountsAsked r) (events_of placed) i) same at.counts

entry_once : (t : Terminals) (placed : List Placed) (rule : AskedRule) (o p : Option AskedEntry)
    → IsAskedEntryOf t placed rule o → IsAskedEntryOf t placed rule p → o ≡ p
entry_once t placed rule None None h k = refl
entry_once t placed rule None (Some d) h k = absurd (h k.0 k.2 (counted k.1 k.3))
entry_once t placed rule (Some e) None h k = absurd (k h.0 h.2 (counted h.1 h.3))
entry_once t placed rule (Some e) (Some d) h k =
    ap (λ (x : AskedEntry). Some x) (entry_at_once (h.1 ∙ sym k.1) h.3 k.3)

asked_once : {t : Terminals} {placed : List Placed} {s u : List AskedEntry} → AreAskedEntries t placed s
    → AreAskedEntries t placed u → s ≡ u
asked_once {t} {placed} is other =
    is.entries_are ∙ kept_same is.entry_of other.entry_of in_order
    (λ rule. entry_once t placed rule (is.entry_of rule) (other.entry_of rule) (is.each rule) (other.each rule))
    ∙ sym other.entries_are

unfoldable pub of_parts : List Entry → List AskedEntry → Option (ℕ × ℕ) → NamedSurvey
of_parts entries more size =
    record { entries = record { items = entries }; asked = record { items = more }; size = size }

pub survey_on_once : (registers : ℕ) (t : Terminals) (placed : List Placed) (s u : NamedSurvey)
    → IsSurveyOn registers t placed s → IsSurveyOn registers t placed u → s ≡ u
unfolding of_parts
survey_on_once registers t placed s u is other =
    let entries : s.entries.items ≡ u.entries.items = entries_once is.entries other.entries in
    let more : s.asked.items ≡ u.asked.items = asked_once is.asked other.asked in
    let size : s.size ≡ u.size =
    is.size
    ∙ ap (λ (l : List Entry). size_without l s.asked.items (picture_left registers (events_of placed))) entries
    ∙ ap (λ (l : List AskedEntry). size_without u.entries.items l (picture_left registers (events_of placed))) more
    ∙ sym other.size in
    let whole : of_parts s.entries.items s.asked.items s.size ≡ of_parts u.entries.items u.asked.items u.size =
    cc (entries, more, size) in
    whole

-- ---- at least one

unfoldable counts_at : (rule : AskedRule) (events : List Event) (i : ℕ)
    → Decided (HoldsAtPosition (CountsAsked rule) events i)
counts_at rule events i = item_decided (CountsAsked rule) (counts_decided rule) events i (slice_get events i) refl

often_of : (rule : AskedRule) (events : List Event)
    → (n : ℕ) × HoldsOften (CountsAsked rule) events n
often_of rule events = (
  length (filter (λ j. yes (counts_at rule events j)) (range_with_len 0 (length events))),
  record {
    holds = λ j. yes (counts_at rule events j);
    decides = λ j. yes_is (counts_at rule events j);
    often_is = refl;
  },
)

first_entry : (t : Terminals) (placed : List Placed) (rule : AskedRule) (i : ℕ) → IsTrue (is_asked t rule)
    → i < length placed → HoldsAtPosition (CountsAsked rule) (events_of placed) i
    → ((j : ℕ) → j < i → ¬ HoldsAtPosition (CountsAsked rule) (events_of placed) j)
    → (o : Option AskedEntry) × IsAskedEntryOf t placed rule o
first_entry t placed rule i asked lt h least =
    let often = often_of rule (events_of placed) in
    let place = place_of placed i lt in (
      Some (record { rule = rule; count = often.0; place = place.0 }),
      (asked, refl, i, record { counts = h; none_earlier = least; place = place.1; often = often.1 }),
    )

asked_entry : (t : Terminals) (placed : List Placed) (rule : AskedRule) → IsTrue (is_asked t rule)
    → (o : Option AskedEntry) × IsAskedEntryOf t placed rule o
asked_entry t placed rule asked =
    let events : List Event = events_of placed in
    elim (least_below (HoldsAtPosition (CountsAsked rule) events) (counts_at rule events) (length events)) [
      | inl f ↦
          first_entry t placed rule f.number asked
          (subst (λ (n : ℕ). f.number < n) (length-map placed (λ (p : Placed). p.event)) f.below) f.holds f.least
      | inr none ↦ (
        None,
        λ known i h. none i (holds_within (CountsAsked rule) events i h) h,
      )
    ]

asked_exists : (t : Terminals) (placed : List Placed) (rule : AskedRule)
    → (o : Option AskedEntry) × IsAskedEntryOf t placed rule o
asked_exists t placed rule = elim (decide_true (is_asked t rule)) [
  | inl asked ↦ asked_entry t placed rule asked
  | inr not ↦ (None, λ asked. absurd (not asked))
]

pub survey_on_exists : (registers : ℕ) (t : Terminals) (placed : List Placed)
    → (survey : NamedSurvey) × IsSurveyOn registers t placed survey
survey_on_exists registers t placed =
    let entry_of = λ (rule : Rule). (entry_exists registers placed rule).0 in
    let asked_of = λ (rule : AskedRule). (asked_exists t placed rule).0 in
    let entries : List Entry = filter_map entry_of all_rules in
    let more : List AskedEntry = filter_map asked_of in_order in (
      record {
        entries = record { items = entries };
        asked = record { items = more };
        size = size_without entries more (picture_left registers (events_of placed));
      },
      record {
        entries = record {
          entry_of = entry_of;
          each = λ rule. (entry_exists registers placed rule).1;
          entries_are = refl;
        };
        asked = record {
          entry_of = asked_of;
          each = λ rule. (asked_exists t placed rule).1;
          entries_are = refl;
        };
        size = refl;
      },
    )
