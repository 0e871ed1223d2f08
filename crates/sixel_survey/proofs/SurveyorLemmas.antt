-- The tallies of all rules, and the survey that they make.
use Rattle.std.proofs.Common.{◌≡◌, ◌≢◌, ◌<◌, ◌≤◌, ◌+◌, ◌-◌, ◌⊎◌, ℕ, zero, suc, true, false, inl, inr, Option}
use Rattle.std.proofs.Common.{Some, None, List, [], ◌∷◌, ◌++◌, length, get_or, take, refl, sym, ap, subst, ◌∙◌}
use Rattle.std.proofs.Common.{arith, length-append, not, ◌&&◌, ap₂, replicate}
use Rattle.std.specs.Prelude.{IsSome, filter_map, is_none, slice_get}
use Rattle.std.specs.Option.{option_flatten, option_map, option_map_or, option_to_list}
use Rattle.std.proofs.lemmas.List.{take_more}
use Rattle.std.proofs.lemmas.List.Elements.{filter_map-append}
use Rattle.std.proofs.lemmas.Bool.{and_parts, cases_lt, false_from_ne_true, not-true}
use Rattle.sixel_grammar.specs.declared.command.Event.{Event}
use Rattle.sixel_grammar.specs.declared.command.Placed.{Placed}
use Rattle.sixel_grammar.specs.Document.{Document, Piece, IsPiece, bytes_of, events_of, joined, most_bytes, placed_from}
use Rattle.std.specs.List.{AllByRecursion, cons_option}
use Rattle.sixel_grammar.proofs.TotalLemmas.{document_whole}
use Rattle.sixel_grammar.proofs.ViableLemmas.{spells-some}
use Rattle.sixel_model.specs.Events.{Attributes, has_sides, is_painting, raster_of}
use Rattle.sixel_model.specs.Grids.{Grid}
use Rattle.sixel_model.specs.Positions.{HoldsAtPosition, earliest}
use Rattle.sixel_model.specs.Rules.{BreaksNone, all_rules, last_rule, number_of, picture_left, raster_before}
use Rattle.sixel_model.proofs.FirstLemmas.{earliest_all, earliest_later}
use Rattle.sixel_model.proofs.LatestLemmas.{Gives}
use Rattle.sixel_model.proofs.RuleLemmas.{nowhere}
use Rattle.sixel_model.specs.declared.rule.Rule.{Rule}
use Rattle.sixel_model.specs.declared.rule.Rule.TheVariants.{BoxSize, Uncovered}
use Rattle.sixel_judge.specs.Portable.{IsPortable}
use Rattle.sixel_judge.proofs.AlarmLemmas.{taken_get, taken_twice}
use Rattle.sixel_judge.proofs.DecideLemmas.{verdict_exists}
use Rattle.sixel_judge.proofs.JudgeLemmas.{length_events}
use Rattle.sixel_judge.proofs.ShownLemmas.{left_is_portable}
use Rattle.sixel_survey.specs.declared.entry.Entry.{Entry}
use Rattle.sixel_survey.specs.declared.entry.Survey.{Survey}
use Rattle.sixel_judge.specs.declared.notes.Notes.{Notes}
use Rattle.sixel_judge.specs.Notes.{IsNotesAfter}
use Rattle.sixel_model.specs.Profiles.{count_of}
use Rattle.sixel_model.specs.declared.profile.Profile.{Profile}
use Rattle.sixel_judge.specs.Counting.{Counts, has_box, paints_early}
use Rattle.sixel_survey.specs.Counting.{HoldsOften, IsHowOften}
use Rattle.sixel_judge.specs.Covering.{IsCoverAfter}
use Rattle.sixel_survey.specs.Covering.{blank_cells, size_in}
use Rattle.sixel_survey.specs.Surveying.{HasSurveyed, SurveyorValue}
use Rattle.sixel_survey.specs.Surveys.{AreEntries, IsEntryAt, IsEntryOf, IsSurvey, size_if_none}
use Rattle.sixel_survey.specs.Tallies.{IsTallyAt, IsTallyOf, entry_from, entry_in, tally_in}
use Rattle.sixel_survey.proofs.CoverLemmas.{blanks_are, early_item}
use Rattle.sixel_survey.proofs.FirstEntryLemmas.{none_if_empty}
use Rattle.sixel_survey.proofs.TallyLemmas.{often_within}
use Rattle.sixel_judge.proofs.TellLemmas.{Passes, earliest_gives, if_box, passes_somewhere, sides_break}

-- ---- how often

-- a list of events has no more events than bytes
few_pieces : (n : ℕ) (ps : List Piece) → AllByRecursion IsPiece ps → length (placed_from n ps) ≤ length (joined ps)
few_pieces n [] each = omega arith
few_pieces n (p ∷ ps) each =
    let more = few_pieces (n + length (bytes_of p)) ps each.1 in
    let some = spells-some p.event p.text each.0.spells in
    let long = length-append (bytes_of p) (joined ps) in
    let one = length-append p.filler p.text in
    omega (arith, more, some, long, one)

pub few_events : {events : List Placed} {bytes : List ℕ} → Document events bytes
    → length (events_of events) ≤ most_bytes
few_events {events} d =
    omega (
      arith,
      length_events events,
      ap length d.events_are,
      few_pieces 0 d.pieces d.parses.each,
      ap length d.parses.bytes_are,
      length-append (joined d.pieces) d.parses.after,
      d.short,
    )

-- in a document no count is capped
exact : {registers : ℕ} {events : List Placed} {bytes : List ℕ} {t : Entry} {i : ℕ} → Document events bytes
    → IsTallyAt registers events t i → HoldsOften (Counts registers t.rule) (events_of events) t.count
exact {registers} {events} {t} d at =
    let few : length (events_of events) ≤ 268435456 = few_events d in
    let within : at.often ≤ length (events_of events) =
    often_within (Counts registers t.rule) at.holds_often in
    let same : at.often ≡ t.count = omega (arith, few, within, at.count_is) in
    subst (HoldsOften (Counts registers t.rule) (events_of events)) same at.holds_often

-- ---- the number of blank pixels

early_passes : (events : List Event) → paints_early events ≡ true
    → Passes (λ earlier e. is_painting e && is_none (raster_before earlier)) events
unfolding paints_early
early_passes events is = passes_somewhere (λ earlier e. is_painting e && is_none (raster_before earlier)) events is

none_not : (o : Option Attributes) → IsSome o → is_none o ≡ true → ⊥
none_not None some none = cc
none_not (Some a) some none = cc

-- once the box is declared, no command paints early
late_later : (i : ℕ) (events : List Event) → IsSome (raster_before (take i events))
    → paints_early (take i events) ≡ false → paints_early events ≡ false
unfolding raster_before
late_later i events some late = false_from_ne_true (paints_early events) (λ is.
    let p = early_passes events is in
    by_place p (cases_lt p.at i))
  where
    by_place : (p : Passes (λ earlier e. is_painting e && is_none (raster_before earlier)) events)
        → (p.at < i) ⊎ (i ≤ p.at) → ⊥
    by_place p (inl before) =
        let prefix : take p.at (take i events) ≡ take p.at events =
        taken_twice p.at i events (omega (arith, before)) in
        let early : paints_early (take i events) ≡ true =
        early_item (take i events) (record {
          at = p.at;
          item = p.item;
          here = taken_get i p.at events before ∙ p.here;
          passes = subst (λ (l : List Event). (is_painting p.item && is_none (raster_before l)) ≡ true) (sym prefix)
              p.passes;
        }) in
        cc
    by_place p (inr after) =
        let there : IsSome (earliest raster_of (take p.at events)) =
        earliest_later raster_of i p.at events after some in
        none_not (earliest raster_of (take p.at events)) there
        (and_parts (is_painting p.item) (is_none (raster_before (take p.at events))) p.passes).1

-- a box in range that a prefix declares
box_in : (o : Option Attributes) → option_map_or has_sides o false ≡ true
    → (a : Attributes) × (o ≡ Some a) × (has_sides a ≡ true)
box_in None h = cc
box_in (Some a) h = (a, refl, h)

some_box : (o : Option Attributes) (a : Attributes) → o ≡ Some a → IsSome o
some_box o a is = rw is refl

has_box_later : (i : ℕ) (events : List Event) → has_box (take i events) ≡ true → has_box events ≡ true
unfolding raster_before
has_box_later i events h =
    let box = box_in (raster_before (take i events)) h in
    rw (earliest_all raster_of i events box.0 box.1) box.2

-- the number of blank pixels, if `Uncovered` counts somewhere
blank_often : (registers : ℕ) {i : ℕ} (blank : ℕ) {events : List Event} (grid : Option Grid) → IsCoverAfter grid events
    → blank ≡ option_map_or blank_cells grid 0 → HoldsAtPosition (Counts registers Uncovered) events i
    → IsHowOften registers Uncovered events blank
blank_often registers {i} blank {events} None cover is h =
    let told = and_parts (has_box (take i events)) (not (paints_early (take i events))) h.holds.told in
    let box : has_box events ≡ true = has_box_later i events told.0 in
    cc
blank_often registers {i} blank {events} (Some s) cover is h =
    let told = and_parts (has_box (take i events)) (not (paints_early (take i events))) h.holds.told in
    let box = box_in (raster_before (take i events)) told.0 in
    let late = late_later i events (some_box (raster_before (take i events)) box.0 box.1)
    (not-true (paints_early (take i events)) told.1) in
    rw cover.box_is (is ∙ blanks_are cover late)

-- ---- the entries

often_plain : (registers : ℕ) (rule : Rule) {events : List Event} {n : ℕ} → rule ≢ Uncovered
    → HoldsOften (Counts registers rule) events n → IsHowOften registers rule events n
often_plain registers Uncovered other h = absurd (other refl)
often_plain registers _ other h = h

entry_at : {registers : ℕ} {seen : List Placed} {t : Entry} {i : ℕ} (count : ℕ) → IsTallyAt registers seen t i
    → IsHowOften registers t.rule (events_of seen) count → IsEntryAt registers seen (record t { count = count }) i
entry_at count at often = record {
  counts = at.counts;
  none_earlier = at.none_earlier;
  place = at.place;
  pixel = at.pixel;
  often = often;
}

plain_entry : {registers : ℕ} {seen : List Placed} {bytes : List ℕ} {t : Entry} {i : ℕ} → Document seen bytes
    → t.rule ≢ Uncovered → IsTallyAt registers seen t i → IsEntryAt registers seen t i
plain_entry {registers} {t} d other at = entry_at t.count at (often_plain registers t.rule other (exact d at))

-- the entry that a tally makes
pub entry_of_tally : (registers : ℕ) {seen : List Placed} {bytes : List ℕ} (grid : Option Grid) (blank : ℕ)
    (rule : Rule) (o : Option Entry) → Document seen bytes → IsCoverAfter grid (events_of seen)
    → blank ≡ option_map_or blank_cells grid 0 → IsTallyOf registers seen rule o
    → IsEntryOf registers seen rule (option_map (entry_from blank rule) o)
entry_of_tally registers grid blank rule None d cover is h = h
entry_of_tally registers {seen} grid blank Uncovered (Some t) d cover is h =
    let at : IsTallyAt registers seen t h.1 = h.2 in
    let counts : HoldsAtPosition (Counts registers Uncovered) (events_of seen) h.1 =
    subst (λ (r : Rule). HoldsAtPosition (Counts registers r) (events_of seen) h.1) h.0 at.counts in (
      h.0,
      h.1,
      entry_at blank at
          (subst (λ (r : Rule). IsHowOften registers r (events_of seen) blank) (sym h.0)
          (blank_often registers blank grid cover is counts)),
    )
entry_of_tally registers grid blank rule (Some t) d cover is h =
    (h.0, h.1, plain_entry d (λ e. let no = sym h.0 ∙ e in cc) h.2)

-- ---- the size

-- a box in range is declared, if no rule is broken in a whole list
no_box_breaks : (registers : ℕ) (events : List Event) (a : Attributes) → raster_before events ≡ Some a
    → has_box events ≡ false → BreaksNone registers last_rule events → ⊥
unfolding raster_before
no_box_breaks registers events a is none unbroken =
    let g : Gives raster_of events a = earliest_gives raster_of events a is in
    nowhere registers BoxSize g.at events unbroken
    (record {
      item = g.item;
      here = g.here;
      holds = sides_break registers (take g.at events) g.item a g.gives (rw is at none);
    })

size_is : {registers : ℕ} {events : List Event} (grid : Option Grid) → IsCoverAfter grid events
    → BreaksNone registers last_rule events → IsPortable registers events (picture_left registers events)
    → size_in grid ≡ Some ((picture_left registers events).width, (picture_left registers events).height)
size_is {registers} {events} None cover none p =
    let box = if_box (raster_before events) _ p.size in
    absurd (no_box_breaks registers events box.0 box.1 cover none)
size_is (Some s) cover none p =
    let size = rw cover.box_is at p.size in
    ap₂ (λ (w h : ℕ). Some (w, h)) (sym cover.width_is ∙ sym size.0) (sym cover.height_is ∙ sym size.1)

pub finish_size : {registers : ℕ} {seen : List Placed} {bytes : List ℕ} (entries : List Entry) (grid : Option Grid)
    (size : Option (ℕ × ℕ)) → Document seen bytes → AreEntries registers seen entries
    → IsCoverAfter grid (events_of seen) → (entries ≡ [] → size ≡ size_in grid) → (entries ≢ [] → size ≡ None)
    → size ≡ size_if_none entries (picture_left registers (events_of seen))
finish_size {registers} {seen} {bytes} [] grid size d are cover empty some =
    let v = verdict_exists registers seen in
    let none = none_if_empty are v.0 refl v.1 in
    empty refl ∙ size_is grid cover none
    (left_is_portable registers (events_of seen) (document_whole seen bytes d) none)
finish_size (e ∷ more) grid size d are cover empty some = some (λ none. cc)

-- ---- the survey

pub finished : {registers : ℕ} {surveyor : SurveyorValue} {seen : List Placed} {bytes : List ℕ} (survey : Survey)
    (blank : ℕ) → HasSurveyed registers surveyor seen → Document seen bytes
    → blank ≡ option_map_or blank_cells surveyor.grid 0
    → survey.entries.items ≡ filter_map (entry_in surveyor.tallies blank) all_rules
    → (survey.entries.items ≡ [] → survey.size ≡ size_in surveyor.grid)
    → (survey.entries.items ≢ [] → survey.size ≡ None) → IsSurvey registers seen survey
finished {registers} {surveyor} {seen} survey blank h d is entries empty some =
    let are : AreEntries registers seen survey.entries.items =
    record {
      entry_of = entry_in surveyor.tallies blank;
      each = λ rule. entry_of_tally registers surveyor.grid blank rule (tally_in surveyor.tallies rule) d h.grid_is is
          (h.tallies_are.each rule);
      entries_are = entries;
    } in
    record {
      entries = are;
      size = finish_size survey.entries.items surveyor.grid survey.size d are h.grid_is empty some;
    }

-- ---- the entries one by one

pub few_kept : {X Y : Type 0} (f : X → Option Y) (xs : List X) → length (filter_map f xs) ≤ length xs
few_kept f [] = omega arith
few_kept f (x ∷ xs) = by_result (f x) (few_kept f xs)
  where
    by_result : (o : Option _) → length (filter_map f xs) ≤ length xs
        → length (cons_option o (filter_map f xs)) ≤ suc (length xs)
    by_result None le = omega (arith, le)
    by_result (Some y) le = omega (arith, le)

cons_one : {Y : Type 0} (o : Option Y) → cons_option o [] ≡ option_to_list o
cons_one None = refl
cons_one (Some y) = refl

pub kept_more : {X Y : Type 0} (f : X → Option Y) (xs : List X) (i j : ℕ) (d : X) (o : Option Y) → i < length xs
    → j ≡ i + 1 → o ≡ f (get_or xs i d) → filter_map f (take j xs) ≡ filter_map f (take i xs) ++ option_to_list o
kept_more {Y = Y} f xs i j d o lt next is =
    ap (λ (n : ℕ). filter_map f (take n xs)) next
    ∙ ap (filter_map f) (take_more xs i d lt)
    ∙ filter_map-append f (take i xs) (get_or xs i d ∷ [])
    ∙ ap (λ (l : List Y). filter_map f (take i xs) ++ l) (cons_one (f (get_or xs i d)) ∙ ap option_to_list (sym is))

-- ---- before any event

none_at : (n k : ℕ) → option_flatten (slice_get (replicate n None) k) ≡ (let o : Option Entry = None in o)
none_at zero k = refl
none_at (suc n) zero = refl
none_at (suc n) (suc k) = none_at n k

no_tally : (registers : ℕ) (rule : Rule) (o : Option Entry) → o ≡ None → IsTallyOf registers [] rule o
no_tally registers rule None is = λ i h. cc h.here
no_tally registers rule (Some t) is = cc

no_box_yet : has_box [] ≡ false
unfolding raster_before earliest
no_box_yet = refl

pub surveyed_none : (profile : Profile) (notes : Notes) → IsNotesAfter notes []
    → HasSurveyed (count_of profile)
    (record { profile = profile; notes = notes; grid = None; tallies = replicate 13 None }) []
surveyed_none profile notes n = record {
  registers_are = refl;
  notes_are = n;
  grid_is = no_box_yet;
  tallies_are = record {
    rules = refl;
    each = λ rule. no_tally (count_of profile) rule _ (none_at 13 (number_of rule - 1));
  };
}
