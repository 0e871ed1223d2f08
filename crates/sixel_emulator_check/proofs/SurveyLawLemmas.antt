-- A survey for named terminals and the verdict for them.
use Rattle.std.proofs.Common.{◌≡◌, ◌<◌, ◌≤◌, ◌-◌, ℕ, Option, Some, None, List, [], refl, sym, ap, subst, ◌∙◌, arith}
use Rattle.std.proofs.Common.{take}
use Rattle.std.specs.Prelude.{◌↔◌, All, Contains, IsTrue, filter_map}
use Rattle.std.proofs.lemmas.List.Elements.{All-contains, All-from_recursion}
use Rattle.sixel_grammar.specs.Document.{Document, events_of}
use Rattle.sixel_grammar.specs.declared.command.Event.{Event}
use Rattle.sixel_grammar.specs.declared.command.Placed.{Placed}
use Rattle.sixel_model.specs.Positions.{HoldsAtPosition}
use Rattle.sixel_model.specs.Rules.{Breaks, BreaksNone, last_rule}
use Rattle.sixel_model.specs.declared.rule.Rule.{Rule}
use Rattle.sixel_model.proofs.RuleLemmas.{nowhere}
use Rattle.sixel_judge.specs.Verdicts.{IsFinding, IsVerdict}
use Rattle.sixel_judge.specs.declared.verdict.Finding.{Finding}
use Rattle.sixel_judge.specs.declared.verdict.Verdict.{Verdict}
use Rattle.sixel_judge.specs.declared.verdict.Verdict.TheVariants as verdict
use Rattle.sixel_judge.proofs.DecideLemmas.{verdict_exists}
use Rattle.sixel_judge.proofs.OptionLemmas.{same_value}
use Rattle.sixel_survey.specs.Surveys.{AreEntries}
use Rattle.sixel_survey.specs.declared.entry.Entry.{Entry}
use Rattle.sixel_survey.proofs.FirstEntryLemmas.{IsResult, entry_kept, entry_of_first, first_of_entries, kept_at}
use Rattle.sixel_survey.proofs.FirstEntryLemmas.{no_entries, none_if_empty, none_kept, results, unbroken_before}
use Rattle.sixel_survey.proofs.PlaceLemmas.{later_place, place_at}
use Rattle.sixel_emulator_rules.specs.Asked.{BreaksAsked, BreaksNoneAsked, is_asked, number_of}
use Rattle.sixel_emulator_rules.specs.Asking.{NamesWithin}
use Rattle.sixel_emulator_rules.specs.Counts.{in_order}
use Rattle.sixel_emulator_rules.specs.Tallies.{AreAskedEntries, CountsAsked, IsAskedEntryAt, IsAskedEntryOf}
use Rattle.sixel_emulator_rules.specs.declared.asking.AskedFinding.{AskedFinding}
use Rattle.sixel_emulator_rules.specs.declared.rule.AskedRule.{AskedRule}
use Rattle.sixel_emulator_rules.specs.declared.tally.AskedEntry.{AskedEntry}
use Rattle.sixel_emulator_rules.specs.declared.terminals.Terminals.{Terminals}
use Rattle.sixel_emulator_rules.proofs.AskingLemmas.{held_in_take, within_less, within_take}
use Rattle.sixel_emulator_rules.proofs.CountsLemmas.{breaks_counts, counts_breaks}
use Rattle.sixel_emulator_rules.proofs.FirstLemmas.{there}
use Rattle.sixel_emulator_rules.proofs.LawLemmas.{names_within}
use Rattle.sixel_emulator_check.specs.Laws.{IsFirstOf, verdict_with}
use Rattle.sixel_emulator_check.specs.Surveys.{IsSurveyOn}
use Rattle.sixel_emulator_check.specs.Verdicts.{IsVerdictOn}
use Rattle.sixel_emulator_check.specs.declared.surveying.NamedSurvey.{NamedSurvey}
use Rattle.sixel_emulator_check.specs.declared.verdict.NamedFinding.{NamedFinding}
use Rattle.sixel_emulator_check.specs.declared.verdict.NamedFinding.TheVariants as finding
use Rattle.sixel_emulator_check.specs.declared.verdict.NamedVerdict.TheVariants.{Broken, Asked}

-- ---- where a rule counts that is asked for

broken_at : (m : AskedRule) {j : ℕ} {events : List Event} → HoldsAtPosition (CountsAsked m) events j
    → HoldsAtPosition (BreaksAsked m) events j
broken_at m {j} {events} h =
    record { item = h.item; here = h.here; holds = counts_breaks (take j events) h.item m h.holds }

-- an entry, and its position
record Listed (t : Terminals) (placed : List Placed) (f : AskedRule → Option AskedEntry) (e : AskedEntry)
    : Type 0 where
  asked : IsTrue (is_asked t e.rule)
  at : ℕ
  is_entry : IsAskedEntryAt placed e at
  is_listed : f e.rule ≡ Some e

listed_as : {t : Terminals} {placed : List Placed} (f : AskedRule → Option AskedEntry) (rule : AskedRule)
    (e : AskedEntry) (o : Option AskedEntry) → f rule ≡ o → o ≡ Some e → IsAskedEntryOf t placed rule o
    → Listed t placed f e
listed_as f rule e None is same h = cc
listed_as {t} {placed} f rule e (Some d) is same h =
    let one : d ≡ e = cc in
    subst (Listed t placed f) one
    (record {
      asked = subst (λ (r : AskedRule). IsTrue (is_asked t r)) (sym h.1) h.0;
      at = h.2;
      is_entry = h.3;
      is_listed = ap f h.1 ∙ is;
    })

-- each of the entries is one
listed : {t : Terminals} {placed : List Placed} {entries : List AskedEntry} (s : AreAskedEntries t placed entries)
    (e : AskedEntry) → Contains entries e → Listed t placed s.entry_of e
listed {t} {placed} s e h =
    let result = All-contains (IsResult s.entry_of) (filter_map s.entry_of in_order) e
    (All-from_recursion (IsResult s.entry_of) (filter_map s.entry_of in_order) (results s.entry_of in_order))
    (subst (λ (l : List AskedEntry). Contains l e) s.entries_are h) in
    listed_as s.entry_of result.0 e (s.entry_of result.0) refl result.1 (s.each result.0)

-- an entry of the rule, at a position up to j
pub record Entered (placed : List Placed) (entries : List AskedEntry) (m : AskedRule) (j : ℕ) : Type 0 where
  pub entry : AskedEntry
  pub among : Contains entries entry
  pub rule_is : entry.rule ≡ m
  pub at : ℕ
  pub is_entry : IsAskedEntryAt placed entry at
  pub up_to : at ≤ j

entered_as : {t : Terminals} {placed : List Placed} {entries : List AskedEntry} (s : AreAskedEntries t placed entries)
    (m : AskedRule) (j : ℕ) (o : Option AskedEntry) → s.entry_of m ≡ o → IsTrue (is_asked t m)
    → HoldsAtPosition (CountsAsked m) (events_of placed) j → IsAskedEntryOf t placed m o → Entered placed entries m j
entered_as s m j None is asked h of = absurd (of asked j h)
entered_as {placed} {entries} s m j (Some e) is asked h of =
    let at : IsAskedEntryAt placed e of.2 = of.3 in
    let counts : HoldsAtPosition (CountsAsked e.rule) (events_of placed) j =
    subst (λ (r : AskedRule). HoldsAtPosition (CountsAsked r) (events_of placed) j) (sym of.1) h in
    let late : ¬ (j < of.2) = λ lt. at.none_earlier j lt counts in
    record {
      entry = e;
      among = subst (λ (l : List AskedEntry). Contains l e) (sym s.entries_are)
          (kept_at s.entry_of in_order (number_of m - 14) m e (there m) is);
      rule_is = of.1;
      at = of.2;
      is_entry = at;
      up_to = omega (arith, late);
    }

-- a rule that is asked for and counts has an entry
pub entered : {t : Terminals} {placed : List Placed} {entries : List AskedEntry} (s : AreAskedEntries t placed entries)
    (m : AskedRule) (j : ℕ) → IsTrue (is_asked t m) → HoldsAtPosition (CountsAsked m) (events_of placed) j
    → Entered placed entries m j
entered s m j asked h = entered_as s m j (s.entry_of m) refl asked h (s.each m)

not_among_none : {X : Type 0} (entries : List X) (e : X) → entries ≡ [] → ¬ Contains entries e
not_among_none {X} entries e none h =
    let no : Contains [] e = subst (λ (l : List X). Contains l e) none h in
    let low : no.0 < 0 = no.1 in
    omega arith

-- ---- no entry

-- what breaks a rule counts, if no event before it names a register above 255
pub counts_within : (m : AskedRule) (j : ℕ) (events : List Event) → NamesWithin (take j events)
    → HoldsAtPosition (BreaksAsked m) events j → HoldsAtPosition (CountsAsked m) events j
counts_within m j events within h =
    record { item = h.item; here = h.here; holds = breaks_counts (take j events) h.item m within h.holds }

none_asked : {t : Terminals} {placed : List Placed} {entries : List AskedEntry} (registers : ℕ) → registers ≤ 256
    → AreAskedEntries t placed entries → entries ≡ [] → BreaksNone registers last_rule (events_of placed)
    → BreaksNoneAsked t (events_of placed)
none_asked {placed} {entries} registers le s none unbroken m asked j h =
    let events : List Event = events_of placed in
    let e =
    entered s m j asked
    (counts_within m j events (within_take j events (names_within registers events le unbroken)) h) in
    not_among_none entries e.entry none e.among

no_entry : (t : Terminals) (placed : List Placed) (m : AskedRule) (o : Option AskedEntry)
    → BreaksNoneAsked t (events_of placed) → IsAskedEntryOf t placed m o → o ≡ None
no_entry t placed m None none h = refl
no_entry t placed m (Some e) none h =
    let at : IsAskedEntryAt placed e h.2 = h.3 in
    let counts : HoldsAtPosition (CountsAsked m) (events_of placed) h.2 =
    subst (λ (r : AskedRule). HoldsAtPosition (CountsAsked r) (events_of placed) h.2) h.1 at.counts in
    absurd (none m h.0 h.2 (broken_at m counts))

no_asked_entries : {t : Terminals} {placed : List Placed} {entries : List AskedEntry} → AreAskedEntries t placed entries
    → BreaksNoneAsked t (events_of placed) → entries ≡ []
no_asked_entries {t} {placed} s none =
    s.entries_are ∙ none_kept s.entry_of in_order (λ m. no_entry t placed m (s.entry_of m) none (s.each m))

pub empty_if_none_on : (registers : ℕ) → registers ≤ 256 → (t : Terminals) (placed : List Placed)
    (survey : NamedSurvey) → IsSurveyOn registers t placed survey
    → ((survey.entries.items ≡ []) × (survey.asked.items ≡ []))
    ↔ (BreaksNone registers last_rule (events_of placed) × BreaksNoneAsked t (events_of placed))
empty_if_none_on registers le t placed survey s = (
  λ empty. (let v = verdict_exists registers placed in
      let unbroken = none_if_empty s.entries v.0 empty.0 v.1 in
      (unbroken, none_asked registers le s.asked empty.1 unbroken)),
  λ none. (no_entries s.entries none.0, no_asked_entries s.asked none.1),
)

-- ---- the first entry is one of a rule of portable pictures

-- the place of an entry whose position is before i is before that of the event there
pub earlier_place : {placed : List Placed} {bytes : List ℕ} {e : AskedEntry} {k : ℕ} (i a : ℕ) → Document placed bytes
    → IsAskedEntryAt placed e k → place_at placed i ≡ Some a → k < i → e.place < a
earlier_place {e} {k} i a document at there lt = later_place document k i e.place a lt at.place there

-- if no rule is broken before position i, and no entry has a smaller place than the event there, none is asked for and
-- broken before it
none_asked_before : {t : Terminals} {placed : List Placed} {bytes : List ℕ} {entries : List AskedEntry} (i a : ℕ)
    → Document placed bytes → AreAskedEntries t placed entries → NamesWithin (take i (events_of placed))
    → place_at placed i ≡ Some a → All (λ (e : AskedEntry). a ≤ e.place) entries → (m : AskedRule) (j : ℕ) → j < i
    → IsTrue (is_asked t m) → ¬ HoldsAtPosition (BreaksAsked m) (events_of placed) j
none_asked_before {placed} {entries} i a document s within there least m j lt asked h =
    let events : List Event = events_of placed in
    let e =
    entered s m j asked (counts_within m j events (within_less j i events (omega (arith, lt)) within) h) in
    let up : e.at ≤ j = e.up_to in
    let early : e.entry.place < a =
    earlier_place i a document e.is_entry there (omega (arith, up, lt)) in
    let late : a ≤ e.entry.place = All-contains (λ (d : AskedEntry). a ≤ d.place) entries e.entry least e.among in
    omega (arith, early, late)

portable_first : {registers : ℕ} {t : Terminals} {placed : List Placed} {bytes : List ℕ} {more : List AskedEntry}
    {f : Finding} → registers ≤ 256 → Document placed bytes → AreAskedEntries t placed more
    → All (λ (e : AskedEntry). f.place ≤ e.place) more → IsVerdict registers placed (verdict.Broken f)
    → IsVerdictOn registers t placed (Broken f)
portable_first {registers} {placed} {f} le document s least v =
    let i : ℕ = v.0 in
    let is : IsFinding registers placed f v.0 = v.1 in
    let within = names_within registers (take v.0 (events_of placed)) le (unbroken_before is.first) in (
      v.0,
      record {
        finding = is;
        none_asked_earlier = λ m j lt asked.
            none_asked_before v.0 f.place document s within is.place least m j lt asked;
      },
    )

-- ---- the first entry is one of a rule that is asked for

-- no rule of portable pictures is broken up to position i, if no entry has a place up to that of the event there
abbrev UnbrokenTo : ℕ → List Event → ℕ → Type 0
UnbrokenTo registers events i = (m : Rule) (j : ℕ) → j ≤ i → ¬ HoldsAtPosition (Breaks registers m) events j

unbroken_to : {registers : ℕ} {placed : List Placed} {bytes : List ℕ} {entries : List Entry} (i a : ℕ) (v : Verdict)
    → Document placed bytes → AreEntries registers placed entries → place_at placed i ≡ Some a
    → All (λ (e : Entry). a < e.place) entries → IsVerdict registers placed v
    → UnbrokenTo registers (events_of placed) i
unbroken_to {registers} {placed} i a (verdict.Portable p) document s there least is m j le h =
    nowhere registers m j (events_of placed) is.0 h
unbroken_to {registers} {placed} {entries} i a (verdict.Broken f) document s there least is m j le h =
    let e = entry_of_first s is.1 in
    let among : Contains entries e.entry =
    subst (λ (l : List Entry). Contains l e.entry) (sym s.entries_are)
    (entry_kept s.entry_of f.rule e.entry e.is_entry_of) in
    let more : a < e.entry.place = All-contains (λ (d : Entry). a < d.place) entries e.entry least among in
    let later : ¬ (is.0 < i) = λ lt. (let less : e.entry.place < a =
    later_place document is.0 i e.entry.place a lt e.is_entry.place there in omega (arith, less, more)) in
    let other : ¬ (is.0 ≡ i) = λ same. (let one : e.entry.place ≡ a =
    same_value (place_at placed i) e.entry.place a
    (subst (λ (k : ℕ). place_at placed k ≡ Some e.entry.place) same e.is_entry.place) there in
    omega (arith, one, more)) in
    is.1.first.none_earlier m j (omega (arith, le, later, other)) h

pub unbroken_take : (registers i : ℕ) (events : List Event) → UnbrokenTo registers events i
    → BreaksNone registers last_rule (take i events)
unfolding BreaksNone
unbroken_take registers i events none m le j h =
    let held = held_in_take (Breaks registers m) i events j h in
    let lt : j < i = held.0 in
    none m j (omega (arith, lt)) held.1

-- at the event of the entry none is asked for and broken with a smaller number
none_smaller_at : {t : Terminals} {placed : List Placed} {bytes : List ℕ} {more : List AskedEntry} {e : AskedEntry}
    {i : ℕ} (n : ℕ) → Document placed bytes → AreAskedEntries t placed more → IsAskedEntryAt placed e i
    → NamesWithin (take i (events_of placed)) → All (λ (d : AskedEntry). e.place ≤ d.place) more
    → All (λ (d : AskedEntry). d.place ≡ e.place → n ≤ number_of d.rule) more → (m : AskedRule)
    → number_of m < n → IsTrue (is_asked t m) → ¬ HoldsAtPosition (BreaksAsked m) (events_of placed) i
none_smaller_at {placed} {more} {e} {i} n document s at within least_place least_number m lt asked h =
    let d = entered s m i asked (counts_within m i (events_of placed) within h) in
    let up : d.at ≤ i = d.up_to in
    let late : e.place ≤ d.entry.place =
    All-contains (λ (c : AskedEntry). e.place ≤ c.place) more d.entry least_place d.among in
    let not_early : ¬ (d.at < i) = λ early. (let less : d.entry.place < e.place =
    earlier_place i e.place document d.is_entry at.place early in omega (arith, less, late)) in
    let same : d.at ≡ i = omega (arith, up, not_early) in
    let place : d.entry.place ≡ e.place =
    same_value (place_at placed i) d.entry.place e.place
    (subst (λ (k : ℕ). place_at placed k ≡ Some d.entry.place) same d.is_entry.place) at.place in
    let number : n ≤ number_of d.entry.rule =
    All-contains (λ (c : AskedEntry). c.place ≡ e.place → n ≤ number_of c.rule) more d.entry least_number d.among
    place in
    let rule : number_of d.entry.rule ≡ number_of m = ap number_of d.rule_is in
    omega (arith, lt, number, rule)

asked_first : {registers : ℕ} {t : Terminals} {placed : List Placed} {bytes : List ℕ} {entries : List Entry}
    {more : List AskedEntry} (e : AskedEntry) → registers ≤ 256 → Document placed bytes
    → AreEntries registers placed entries → AreAskedEntries t placed more
    → All (λ (d : Entry). e.place < d.place) entries → Contains more e
    → All (λ (d : AskedEntry). e.place ≤ d.place) more
    → All (λ (d : AskedEntry). d.place ≡ e.place → number_of e.rule ≤ number_of d.rule) more
    → IsVerdictOn registers t placed (Asked (record { rule = e.rule; place = e.place }))
asked_first {registers} {placed} e le document s asked later among least_place least_number =
    let l = listed asked e among in
    let i : ℕ = l.at in
    let at : IsAskedEntryAt placed e l.at = l.is_entry in
    let v = verdict_exists registers placed in
    let none : UnbrokenTo registers (events_of placed) l.at =
    unbroken_to l.at e.place v.0 document s at.place later v.1 in
    let within : NamesWithin (take l.at (events_of placed)) =
    names_within registers (take l.at (events_of placed)) le (unbroken_take registers l.at (events_of placed) none) in (
      l.at,
      record {
        first = record {
          asked = l.asked;
          broken = broken_at e.rule at.counts;
          none_earlier = none_asked_before l.at e.place document asked within at.place least_place;
          none_smaller = none_smaller_at (number_of e.rule) document asked at within least_place least_number;
        };
        place = at.place;
        none_broken = none;
      },
    )

-- ---- the verdict

pub first_is_verdict_on : (registers : ℕ) → registers ≤ 256 → (t : Terminals) (placed : List Placed) (bytes : List ℕ)
    (survey : NamedSurvey) (f : NamedFinding) → Document placed bytes → IsSurveyOn registers t placed survey
    → IsFirstOf survey.entries.items survey.asked.items f → IsVerdictOn registers t placed (verdict_with f)
first_is_verdict_on registers le t placed bytes survey (finding.Portable f) document s first =
    portable_first le document s.asked first.1
    (subst (λ (g : Finding). IsVerdict registers placed (verdict.Broken g)) (sym first.0.2)
    (first_of_entries document s.entries first.0.1))
first_is_verdict_on registers le t placed bytes survey (finding.Asked f) document s first =
    let is : f ≡ record { rule = first.1.rule; place = first.1.place } = first.3 in
    subst (λ (g : AskedFinding). IsVerdictOn registers t placed (Asked g)) (sym is)
    (asked_first first.1 le document s.entries s.asked
    (subst (λ (g : AskedFinding). All (λ (d : Entry). g.place < d.place) survey.entries.items) is first.0) first.2
    (subst (λ (g : AskedFinding). All (λ (d : AskedEntry). g.place ≤ d.place) survey.asked.items) is first.4)
    (subst (λ (g : AskedFinding). All (λ (d : AskedEntry). d.place ≡ g.place → number_of g.rule ≤ number_of d.rule)
    survey.asked.items) is first.5))
