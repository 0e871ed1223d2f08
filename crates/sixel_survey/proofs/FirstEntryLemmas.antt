-- The entry of the least place, and of these the least number, is the first broken rule.
use Rattle.std.proofs.Common.{◌≡◌, ◌≢◌, ◌<◌, ◌≤◌, ◌-◌, ℕ, zero, suc, Option, Some, None, List, [], ◌∷◌, length, refl}
use Rattle.std.proofs.Common.{take}
use Rattle.std.proofs.Common.{sym, ap, subst, ◌∙◌, arith, inl, inr, ◌⊎◌}
use Rattle.std.specs.Prelude.{All, Contains, filter_map, slice_get}
use Rattle.std.specs.List.{AllByRecursion}
use Rattle.std.proofs.lemmas.Bool.{cases_lt}
use Rattle.std.proofs.lemmas.List.Elements.{All-contains, All-contains_itself, All-from_recursion, All-weaker}
use Rattle.sixel_grammar.specs.declared.command.Event.{Event}
use Rattle.sixel_grammar.specs.declared.command.Placed.{Placed}
use Rattle.sixel_grammar.specs.Document.{Document, events_of}
use Rattle.sixel_model.specs.Positions.{HoldsAtPosition}
use Rattle.sixel_model.specs.Rules.{Breaks, BreaksNone, IsFirstBroken, all_rules, last_rule, number_of}
use Rattle.sixel_model.proofs.RuleLemmas.{nowhere, same_rule}
use Rattle.sixel_model.specs.declared.rule.Rule.{Rule}
use Rattle.sixel_model.specs.declared.rule.Rule.TheVariants.{RasterFirst}
use Rattle.sixel_judge.specs.declared.verdict.Finding.{Finding}
use Rattle.sixel_judge.specs.declared.verdict.Verdict.{Verdict}
use Rattle.sixel_judge.specs.declared.verdict.Verdict.TheVariants.{Portable, Broken}
use Rattle.sixel_judge.specs.Verdicts.{IsFinding, IsPixel, IsVerdict}
use Rattle.sixel_judge.proofs.AlarmLemmas.{taken_there, taken_twice}
use Rattle.sixel_judge.proofs.DecideLemmas.{verdict_exists}
use Rattle.sixel_judge.proofs.OptionLemmas.{same_value}
use Rattle.sixel_judge.proofs.VerdictLemmas.{pixel_at}
use Rattle.sixel_survey.specs.declared.entry.Entry.{Entry}
use Rattle.sixel_judge.specs.Counting.{Counts}
use Rattle.sixel_survey.specs.Surveys.{AreEntries, IsEntryAt, IsEntryOf}
use Rattle.sixel_survey.specs.Laws.{EmptyIfNone, FirstIsVerdict, IsFirstEntry, SomeFirst, finding_of}
use Rattle.sixel_survey.proofs.PlaceLemmas.{later_place, place_at}
use Rattle.sixel_judge.proofs.TellLemmas.{least_counts}

-- ---- what a list of results keeps

contains_more : {X : Type 0} (y : X) (xs : List X) (x : X) → Contains xs x → Contains (y ∷ xs) x
contains_more y xs x h = let low : h.0 < length xs = h.1 in (suc h.0, omega arith, h.2)

keeps_first : {X Y : Type 0} (f : X → Option Y) (x : X) (xs : List X) (y : Y) → f x ≡ Some y
    → Contains (filter_map f (x ∷ xs)) y
keeps_first f x xs y is = rw is (0, omega arith, refl)

keeps_more : {X Y : Type 0} (f : X → Option Y) (x : X) (xs : List X) (y : Y) (o : Option Y) → f x ≡ o
    → Contains (filter_map f xs) y → Contains (filter_map f (x ∷ xs)) y
keeps_more f x xs y None is h = rw is h
keeps_more f x xs y (Some z) is h = rw is (contains_more z (filter_map f xs) y h)

-- the result for an item is kept
pub kept_at : {X Y : Type 0} (f : X → Option Y) (xs : List X) (k : ℕ) (x : X) (y : Y) → slice_get xs k ≡ Some x
    → f x ≡ Some y → Contains (filter_map f xs) y
kept_at f [] k x y here is = cc
kept_at f (z ∷ zs) zero x y here is = let same : z ≡ x = cc in keeps_first f z zs y (ap f same ∙ is)
kept_at f (z ∷ zs) (suc k) x y here is = keeps_more f z zs y (f z) refl (kept_at f zs k x y here is)

-- each kept result is that of an item
abbrev pub IsResult : {X Y : Type 0} → (X → Option Y) → Y → Type 0
IsResult {X} f y = (x : X) × (f x ≡ Some y)

results_more : {X Y : Type 0} (f : X → Option Y) (x : X) (xs : List X) (o : Option Y) → f x ≡ o
    → AllByRecursion (IsResult f) (filter_map f xs) → AllByRecursion (IsResult f) (filter_map f (x ∷ xs))
results_more f x xs None is h = rw is h
results_more f x xs (Some y) is h = rw is ((x, is), h)

pub results : {X Y : Type 0} (f : X → Option Y) (xs : List X) → AllByRecursion (IsResult f) (filter_map f xs)
results f [] = tt
results f (x ∷ xs) = results_more f x xs (f x) refl (results f xs)

-- if no item has a result, none is kept
pub none_kept : {X Y : Type 0} (f : X → Option Y) (xs : List X) → ((x : X) → f x ≡ None) → filter_map f xs ≡ []
none_kept f [] none = refl
none_kept f (x ∷ xs) none = rw (none x) (none_kept f xs none)

-- ---- the entries of a entries

rule_there : (rule : Rule) → slice_get all_rules (number_of rule - 1) ≡ Some rule
rule_there RasterFirst = refl
rule_there _ = refl

pub entry_kept : (f : Rule → Option Entry) (rule : Rule) (e : Entry) → f rule ≡ Some e
    → Contains (filter_map f all_rules) e
entry_kept f rule e is = kept_at f all_rules (number_of rule - 1) rule e (rule_there rule) is

counts_broken : (registers : ℕ) (rule : Rule) {events : List Event} {i : ℕ}
    → HoldsAtPosition (Counts registers rule) events i → HoldsAtPosition (Breaks registers rule) events i
counts_broken registers rule h = record { item = h.item; here = h.here; holds = h.holds.broken }

-- an entry and its position
record Listed (registers : ℕ) (placed : List Placed) (f : Rule → Option Entry) (e : Entry) : Type 0 where
  at : ℕ
  is_entry : IsEntryAt registers placed e at
  is_listed : f e.rule ≡ Some e

listed_as : (registers : ℕ) (placed : List Placed) (f : Rule → Option Entry) (rule : Rule) (e : Entry)
    (o : Option Entry) → f rule ≡ o → o ≡ Some e → IsEntryOf registers placed rule o → Listed registers placed f e
listed_as registers placed f rule e None is same h = cc
listed_as registers placed f rule e (Some d) is same h =
    let one : d ≡ e = cc in
    subst (Listed registers placed f) one
    (record { at = h.1; is_entry = h.2; is_listed = ap f h.0 ∙ is })

-- each of the entries is one
listed : {registers : ℕ} {placed : List Placed} {entries : List Entry} (s : AreEntries registers placed entries)
    (e : Entry) → Contains entries e → Listed registers placed s.entry_of e
listed {registers} {placed} s e h =
    let result = All-contains (IsResult s.entry_of) (filter_map s.entry_of all_rules) e
    (All-from_recursion (IsResult s.entry_of) (filter_map s.entry_of all_rules) (results s.entry_of all_rules))
    (subst (λ (l : List Entry). Contains l e) s.entries_are h) in
    listed_as registers placed s.entry_of result.0 e (s.entry_of result.0) refl result.1 (s.each result.0)

-- ---- the entry of the first broken rule

-- no rule is broken before the first broken one
pub unbroken_before : {registers : ℕ} {rule : Rule} {i : ℕ} {events : List Event}
    → IsFirstBroken registers events rule i → BreaksNone registers last_rule (take i events)
unfolding BreaksNone
unbroken_before {registers} {i} {events} f m le j h =
    let there = taken_there i j events h.item h.here in
    let low : j < i = there.0 in
    f.none_earlier m j low (record {
      item = h.item;
      here = there.1;
      holds = subst (λ (l : List Event). Breaks registers m l h.item) (taken_twice j i events (omega arith)) h.holds;
    })

-- the first broken rule counts
first_counts : {registers : ℕ} {rule : Rule} {i : ℕ} {events : List Event} → IsFirstBroken registers events rule i
    → HoldsAtPosition (Counts registers rule) events i
first_counts {registers} {rule} {i} {events} f =
    let h = f.broken in
    record {
      item = h.item;
      here = h.here;
      holds = least_counts registers rule (take i events) h.item (unbroken_before f)
          (λ m lt b. f.none_smaller m lt (record { item = h.item; here = h.here; holds = b })) h.holds;
    }

make : Rule → ℕ → Option (ℕ × ℕ) → Finding
make rule place pixel = record { rule = rule; place = place; pixel = pixel }

-- it has its place and its pixel
same_finding : {registers : ℕ} {placed : List Placed} {f : Finding} {e : Entry} {i : ℕ} → IsFinding registers placed f i
    → IsEntryAt registers placed e i → e.rule ≡ f.rule → finding_of e ≡ f
unfolding make
same_finding {placed} {f} {e} {i} is at rule =
    let place : e.place ≡ f.place = same_value (place_at placed i) e.place f.place at.place is.place in
    let pixel : e.pixel ≡ f.pixel =
    pixel_at f.rule e.pixel f.pixel (events_of placed) i
    (subst (λ (r : Rule). HoldsAtPosition (IsPixel r e.pixel) (events_of placed) i) rule at.pixel) is.pixel in
    let whole : make e.rule e.place e.pixel ≡ make f.rule f.place f.pixel = cc (rule, place, pixel) in
    whole

-- the entry of the finding's rule
pub record Found (registers : ℕ) (placed : List Placed) (f : Finding) (i : ℕ) (o : Option Entry) : Type 0 where
  pub entry : Entry
  pub is_entry_of : o ≡ Some entry
  pub rule_is : entry.rule ≡ f.rule
  pub is_entry : IsEntryAt registers placed entry i
  pub finding_is : finding_of entry ≡ f

finding_entry : {registers : ℕ} {placed : List Placed} {f : Finding} {i : ℕ} (o : Option Entry)
    → IsFinding registers placed f i → IsEntryOf registers placed f.rule o → Found registers placed f i o
finding_entry {i} None is none = absurd (none i (first_counts is.first))
finding_entry {registers} {placed} {i} (Some e) is h =
    let events : List Event = events_of placed in
    let j : ℕ = h.1 in
    let at : IsEntryAt registers placed e h.1 = h.2 in
    let here : HoldsAtPosition (Counts registers e.rule) events i =
    subst (λ (r : Rule). HoldsAtPosition (Counts registers r) events i) (sym h.0) (first_counts is.first) in
    let not_before : ¬ (i < j) = λ lt. at.none_earlier i lt here in
    let not_after : ¬ (j < i) = λ lt. is.first.none_earlier e.rule j lt (counts_broken registers e.rule at.counts) in
    let same : j ≡ i = omega (arith, not_before, not_after) in
    let there : IsEntryAt registers placed e i = subst (IsEntryAt registers placed e) same at in
    record {
      entry = e;
      is_entry_of = refl;
      rule_is = h.0;
      is_entry = there;
      finding_is = same_finding is there h.0;
    }

-- ---- no other entry comes before it

-- an entry doesn't count before the first broken rule
not_earlier : {registers : ℕ} {placed : List Placed} {f : Finding} {d : Entry} {i j : ℕ}
    → IsFinding registers placed f i → IsEntryAt registers placed d j → ¬ (j < i)
not_earlier {registers} {d} {j} is at lt = is.first.none_earlier d.rule j lt (counts_broken registers d.rule at.counts)

-- nor, at its event, has it a smaller number
not_smaller : {registers : ℕ} {placed : List Placed} {f : Finding} {d : Entry} {i j : ℕ} → j ≡ i
    → IsFinding registers placed f i → IsEntryAt registers placed d j → number_of f.rule ≤ number_of d.rule
not_smaller {registers} {placed} {f} {d} same is at =
    let none : ¬ (number_of d.rule < number_of f.rule) = λ lt. is.first.none_smaller d.rule lt
    (counts_broken registers d.rule
    (subst (HoldsAtPosition (Counts registers d.rule) (events_of placed)) same at.counts)) in
    omega (arith, none)

-- two entries of a document, the second no earlier than the first
place_order : {registers : ℕ} {placed : List Placed} {bytes : List ℕ} {e d : Entry} {i j : ℕ} → Document placed bytes
    → IsEntryAt registers placed e i → IsEntryAt registers placed d j → ¬ (j < i)
    → (e.place ≤ d.place) × (d.place ≡ e.place → j ≡ i)
place_order {placed} {e} {d} {i} {j} document at other late =
    let later : i < j → e.place < d.place = λ lt.
    later_place document i j e.place d.place lt at.place other.place in
    let together : i ≡ j → e.place ≡ d.place = λ same.
    same_value (place_at placed j) e.place d.place (subst (λ (k : ℕ). place_at placed k ≡ Some e.place) same at.place)
    other.place in
    by_order (cases_lt i j) later together
  where
    by_order : (i < j) ⊎ (j ≤ i) → (i < j → e.place < d.place) → (i ≡ j → e.place ≡ d.place)
        → (e.place ≤ d.place) × (d.place ≡ e.place → j ≡ i)
    by_order (inl lt) later together =
        let more : e.place < d.place = later lt in (omega (arith, more), λ same. absurd (omega (arith, more, same)))
    by_order (inr le) later together =
        let one : i ≡ j = omega (arith, le, late) in
        let same : e.place ≡ d.place = together one in
        (omega (arith, same), λ k. sym one)

-- the entry of the first broken rule is the first entry
first_entry : (registers : ℕ) (placed : List Placed) (bytes : List ℕ) (entries : List Entry)
    (s : AreEntries registers placed entries) (f : Finding) (i : ℕ) → Document placed bytes
    → IsFinding registers placed f i → (e : Found registers placed f i (s.entry_of f.rule))
    → IsFirstEntry entries e.entry
first_entry registers placed bytes entries s f i document is e =
    let order = λ (d : Entry) (l : Listed registers placed s.entry_of d).
    place_order document e.is_entry l.is_entry
    (not_earlier is l.is_entry) in
    record {
      among = subst (λ (l : List Entry). Contains l e.entry) (sym s.entries_are)
          (entry_kept s.entry_of f.rule e.entry e.is_entry_of);
      least_place = each (λ d. e.entry.place ≤ d.place) (λ d l. (order d l).0);
      least_number = each (λ d. d.place ≡ e.entry.place → number_of e.entry.rule ≤ number_of d.rule)
          (λ d l same.
          subst (λ (r : Rule). number_of r ≤ number_of d.rule) (sym e.rule_is)
          (not_smaller ((order d l).1 same) is l.is_entry));
    }
  where
    each : (P : Entry → Type 0) → ((d : Entry) → Listed registers placed s.entry_of d → P d)
        → All P entries
    each P h = All-weaker (Contains entries) P
        (λ d among. h d (listed s d among)) entries
        (All-contains_itself entries)

-- ---- the laws

counts_none : (registers : ℕ) (placed : List Placed) (rule : Rule) (o : Option Entry)
    → BreaksNone registers last_rule (events_of placed) → IsEntryOf registers placed rule o → o ≡ None
counts_none registers placed rule None none h = refl
counts_none registers placed rule (Some e) none h =
    let at : IsEntryAt registers placed e h.1 = h.2 in
    absurd (nowhere registers e.rule h.1 (events_of placed) none (counts_broken registers e.rule at.counts))

pub no_entries : {registers : ℕ} {placed : List Placed} {entries : List Entry} → AreEntries registers placed entries
    → BreaksNone registers last_rule (events_of placed) → entries ≡ []
no_entries {registers} {placed} s none =
    s.entries_are ∙ none_kept s.entry_of all_rules
    (λ rule. counts_none registers placed rule (s.entry_of rule) none (s.each rule))

not_among_none : (entries : List Entry) (e : Entry) → entries ≡ [] → ¬ Contains entries e
not_among_none entries e none h =
    let no : Contains [] e = subst (λ (l : List Entry). Contains l e) none h in
    let low : no.0 < 0 = no.1 in
    omega arith

-- if a rule is broken, there is an entry for the first
pub entry_of_first : {registers : ℕ} {placed : List Placed} {entries : List Entry}
    (s : AreEntries registers placed entries) {f : Finding} {i : ℕ} → IsFinding registers placed f i → Found registers placed f i (s.entry_of f.rule)
entry_of_first s {f} is = finding_entry (s.entry_of f.rule) is (s.each f.rule)

pub none_if_empty : {registers : ℕ} {placed : List Placed} {entries : List Entry}
    (s : AreEntries registers placed entries) (v : Verdict) → entries ≡ [] → IsVerdict registers placed v
    → BreaksNone registers last_rule (events_of placed)
none_if_empty s (Portable p) none is = is.0
none_if_empty {entries} s (Broken f) none is =
    let e = entry_of_first s is.1 in
    absurd (not_among_none entries e.entry none
    (subst (λ (l : List Entry). Contains l e.entry) (sym s.entries_are)
    (entry_kept s.entry_of f.rule e.entry e.is_entry_of)))

pub empty_if_none : (registers : ℕ) → EmptyIfNone registers
empty_if_none registers events survey s =
    let v = verdict_exists registers events in (
      λ none. none_if_empty s.entries v.0 none v.1,
      λ none. no_entries s.entries none,
    )

some_of : {registers : ℕ} {events : List Placed} {bytes : List ℕ} {entries : List Entry} (v : Verdict)
    → Document events bytes → AreEntries registers events entries → entries ≢ [] → IsVerdict registers events v
    → (entry : Entry) × IsFirstEntry entries entry
some_of (Portable p) document s some is = absurd (some (no_entries s is.0))
some_of {registers} {events} {bytes} {entries} (Broken f) document s some is =
    let e = entry_of_first s is.1 in
    (e.entry, first_entry registers events bytes entries s f is.0 document is.1 e)

pub some_first : (registers : ℕ) → SomeFirst registers
some_first registers events bytes survey document s some =
    let v = verdict_exists registers events in
    some_of v.0 document s.entries some v.1

-- two first entries have the same rule
first_rules : {entries : List Entry} {e d : Entry} → IsFirstEntry entries e → IsFirstEntry entries d → e.rule ≡ d.rule
first_rules {entries} {e} {d} f g =
    let above : e.place ≤ d.place = All-contains (λ (x : Entry). e.place ≤ x.place) entries d f.least_place g.among in
    let below : d.place ≤ e.place = All-contains (λ (x : Entry). d.place ≤ x.place) entries e g.least_place f.among in
    let place : d.place ≡ e.place = omega arith in
    let fewer : number_of e.rule ≤ number_of d.rule =
    All-contains (λ (x : Entry). x.place ≡ e.place → number_of e.rule ≤ number_of x.rule) entries d f.least_number
    g.among place in
    let more : number_of d.rule ≤ number_of e.rule =
    All-contains (λ (x : Entry). x.place ≡ d.place → number_of d.rule ≤ number_of x.rule) entries e g.least_number
    f.among (sym place) in
    same_rule e.rule d.rule (omega (arith, fewer, more))

verdict_of : {registers : ℕ} {events : List Placed} {bytes : List ℕ} {entries : List Entry} {entry : Entry}
    (v : Verdict) → Document events bytes → AreEntries registers events entries → IsFirstEntry entries entry
    → IsVerdict registers events v → IsVerdict registers events (Broken (finding_of entry))
verdict_of {entries} {entry} (Portable p) document s first is =
    absurd (not_among_none entries entry (no_entries s is.0) first.among)
verdict_of {registers} {events} {bytes} {entries} {entry} (Broken f) document s first is =
    let e = entry_of_first s is.1 in
    let other = first_entry registers events bytes entries s f is.0 document is.1 e in
    let rule : entry.rule ≡ f.rule = first_rules first other ∙ e.rule_is in
    let l = listed s entry first.among in
    let same : entry ≡ e.entry =
    same_value (s.entry_of f.rule) entry e.entry
    (subst (λ (r : Rule). s.entry_of r ≡ Some entry) rule l.is_listed) e.is_entry_of in
    subst (λ (g : Finding). IsVerdict registers events (Broken g)) (sym (ap finding_of same ∙ e.finding_is)) is

-- the first entry is the verdict
pub first_of_entries : {registers : ℕ} {events : List Placed} {bytes : List ℕ} {entries : List Entry} {entry : Entry}
    → Document events bytes → AreEntries registers events entries → IsFirstEntry entries entry
    → IsVerdict registers events (Broken (finding_of entry))
first_of_entries {registers} {events} document s first =
    let v = verdict_exists registers events in
    verdict_of v.0 document s first v.1

pub first_is_verdict : (registers : ℕ) → FirstIsVerdict registers
first_is_verdict registers events bytes survey entry document s first = first_of_entries document s.entries first
