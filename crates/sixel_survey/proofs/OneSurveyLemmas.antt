-- A list of events has exactly one survey.
use Rattle.std.proofs.Common.{◌≡◌, ◌↔◌, ◌<◌, ℕ, Bool, true, false, inl, inr, Option, Some, None, List, [], ◌∷◌, length}
use Rattle.std.proofs.Common.{take, refl, sym, ap, subst, ◌∙◌, arith}
use Rattle.std.specs.Prelude.{IsSomeAnd, IsTrue, filter, filter_map, slice_get}
use Rattle.std.specs.List.{range_with_len}
use Rattle.std.proofs.lemmas.List.{length-map}
use Rattle.std.proofs.lemmas.List.Elements.{filter_agree}
use Rattle.sixel_grammar.specs.declared.command.Event.{Event}
use Rattle.sixel_grammar.specs.declared.command.Placed.{Placed}
use Rattle.sixel_grammar.specs.Document.{events_of}
use Rattle.sixel_model.specs.Events.{Attributes, raster_of}
use Rattle.sixel_model.specs.Positions.{HoldsAtPosition}
use Rattle.sixel_model.specs.Rules.{Breaks, BreaksUncovered, all_rules, picture_left, raster_before}
use Rattle.sixel_model.proofs.FirstLemmas.{earliest_all}
use Rattle.sixel_model.proofs.PositionLemmas.{holds_within}
use Rattle.sixel_model.specs.declared.rule.Rule.{Rule}
use Rattle.sixel_model.specs.declared.rule.Rule.TheVariants.{Uncovered}
use Rattle.sixel_judge.proofs.DecideLemmas.{both_decided, pixel_of, place_of, rule_decided}
use Rattle.sixel_judge.proofs.OptionLemmas.{same_value}
use Rattle.sixel_judge.proofs.SearchLemmas.{Decided, decide_true, least_below}
use Rattle.sixel_judge.proofs.VerdictLemmas.{pixel_at}
use Rattle.sixel_survey.specs.declared.entry.Entry.{Entry}
use Rattle.sixel_survey.specs.declared.entry.Survey.{Survey}
use Rattle.sixel_judge.specs.Counting.{Counts, is_told}
use Rattle.sixel_survey.specs.Counting.{HoldsOften, IsHowOften, blanks}
use Rattle.sixel_survey.specs.Laws.{OneSurvey, SomeSurvey}
use Rattle.sixel_survey.specs.Surveys.{AreEntries, IsEntryAt, IsEntryOf, size_if_none}
use Rattle.sixel_survey.proofs.PlaceLemmas.{place_at}

-- ---- at most one

same_test : (P : Type 0) (b c : Bool) → (IsTrue b ↔ P) → (IsTrue c ↔ P) → b ≡ c
same_test P true true f g = refl
same_test P true false f g = sym (g.1 (f.0 refl))
same_test P false true f g = f.1 (g.0 refl)
same_test P false false f g = refl

pub holds_once : {X : Type 0} (P : List X → X → Type 0) {xs : List X} {n m : ℕ} → HoldsOften P xs n → HoldsOften P xs m
    → n ≡ m
holds_once P {xs} f g =
    f.often_is
    ∙ ap length (filter_agree f.holds g.holds (λ i. same_test _ (f.holds i) (g.holds i) (f.decides i) (g.decides i))
    (range_with_len 0 (length xs))) ∙ sym g.often_is

number_once : (o : Option Attributes) (f : Attributes → ℕ) (n m : ℕ) → IsSomeAnd o (λ a. n ≡ f a)
    → IsSomeAnd o (λ a. m ≡ f a) → n ≡ m
number_once None f n m h k = absurd h
number_once (Some a) f n m h k = h ∙ sym k

often_once : (registers : ℕ) (rule : Rule) (events : List Event) (n m : ℕ) → IsHowOften registers rule events n
    → IsHowOften registers rule events m → n ≡ m
often_once registers Uncovered events n m f g = number_once (raster_before events) (blanks events) n m f g
often_once registers rule events n m f g = holds_once (Counts registers rule) f g

make : Rule → ℕ → ℕ → Option (ℕ × ℕ) → Entry
make rule count place pixel = record { rule = rule; count = count; place = place; pixel = pixel }

entry_at_once : {registers : ℕ} {placed : List Placed} {e d : Entry} {i j : ℕ} → e.rule ≡ d.rule
    → IsEntryAt registers placed e i → IsEntryAt registers placed d j → e ≡ d
unfolding make
entry_at_once {registers} {placed} {e} {d} {i} {j} rule at other =
    let events : List Event = events_of placed in
    let first : IsEntryAt registers placed (make d.rule e.count e.place e.pixel) i =
    subst (λ (r : Rule). IsEntryAt registers placed (make r e.count e.place e.pixel) i) rule at in
    let not_before : ¬ (i < j) = λ lt. other.none_earlier i lt first.counts in
    let not_after : ¬ (j < i) = λ lt. first.none_earlier j lt other.counts in
    let same : i ≡ j = omega (arith, not_before, not_after) in
    let there : IsEntryAt registers placed (make d.rule e.count e.place e.pixel) j =
    subst (IsEntryAt registers placed (make d.rule e.count e.place e.pixel)) same first in
    let place : e.place ≡ d.place = same_value (place_at placed j) e.place d.place there.place other.place in
    let pixel : e.pixel ≡ d.pixel = pixel_at d.rule e.pixel d.pixel events j there.pixel other.pixel in
    let often : e.count ≡ d.count = often_once registers d.rule events e.count d.count there.often other.often in
    let whole : make e.rule e.count e.place e.pixel ≡ make d.rule d.count d.place d.pixel =
    cc (rule, often, place, pixel) in
    whole

entry_once : (registers : ℕ) (placed : List Placed) (rule : Rule) (o p : Option Entry)
    → IsEntryOf registers placed rule o → IsEntryOf registers placed rule p → o ≡ p
entry_once registers placed rule None None h k = refl
entry_once registers placed rule None (Some d) h k =
    let at : IsEntryAt registers placed d k.1 = k.2 in
    absurd (h k.1 (subst (λ (r : Rule). HoldsAtPosition (Counts registers r) (events_of placed) k.1) k.0 at.counts))
entry_once registers placed rule (Some e) None h k =
    let at : IsEntryAt registers placed e h.1 = h.2 in
    absurd (k h.1 (subst (λ (r : Rule). HoldsAtPosition (Counts registers r) (events_of placed) h.1) h.0 at.counts))
entry_once registers placed rule (Some e) (Some d) h k =
    ap (λ (x : Entry). Some x) (entry_at_once (h.0 ∙ sym k.0) h.2 k.2)

pub kept_same : {X Y : Type 0} (f g : X → Option Y) (xs : List X) → ((x : X) → f x ≡ g x)
    → filter_map f xs ≡ filter_map g xs
kept_same f g [] same = refl
kept_same f g (x ∷ xs) same = rw (same x, kept_same f g xs same) refl

pub entries_once : {registers : ℕ} {placed : List Placed} {s t : List Entry} → AreEntries registers placed s
    → AreEntries registers placed t → s ≡ t
entries_once {registers} {placed} is other =
    is.entries_are ∙ kept_same is.entry_of other.entry_of all_rules
    (λ rule. entry_once registers placed rule (is.entry_of rule) (other.entry_of rule) (is.each rule) (other.each rule))
    ∙ sym other.entries_are

of_parts : List Entry → Option (ℕ × ℕ) → Survey
of_parts entries size = record { entries = record { items = entries }; size = size }

pub survey_once : (registers : ℕ) → OneSurvey registers
unfolding of_parts
survey_once registers placed s t is other =
    let entries : s.entries.items ≡ t.entries.items =
    entries_once is.entries other.entries in
    let size : s.size ≡ t.size =
    is.size ∙ ap (λ (l : List Entry). size_if_none l (picture_left registers (events_of placed))) entries
    ∙ sym other.size in
    let whole : of_parts s.entries.items s.size ≡ of_parts t.entries.items t.size = cc (entries, size) in
    whole

-- ---- at least one

unfoldable counts_decided : (registers : ℕ) (rule : Rule) (before : List Event) (e : Event)
    → Decided (Counts registers rule before e)
counts_decided registers rule before e =
    elim (both_decided _ _ (rule_decided registers rule before e)
    (decide_true (is_told registers rule before e))) [
      | inl both ↦ inl (record { broken = both.0; told = both.1 })
      | inr none ↦ inr (λ (c : Counts registers rule before e). none (c.broken, c.told))
    ]

unfoldable pub item_decided : {X : Type 0} (P : List X → X → Type 0) → ((before : List X) (x : X) → Decided (P before x))
    → (xs : List X) (i : ℕ) (o : Option X) → slice_get xs i ≡ o → Decided (HoldsAtPosition P xs i)
item_decided P decide xs i None is = inr (λ (h : HoldsAtPosition P xs i).
    let bad : Some h.item ≡ None = sym h.here ∙ is in cc)
item_decided P decide xs i (Some x) is = elim (decide (take i xs) x) [
  | inl p ↦ inl (record { item = x; here = is; holds = p })
  | inr not ↦ inr (λ (h : HoldsAtPosition P xs i).
      not (subst (P (take i xs)) (same_value (slice_get xs i) h.item x h.here is) h.holds))
]

unfoldable counts_at : (registers : ℕ) (rule : Rule) (events : List Event) (i : ℕ)
    → Decided (HoldsAtPosition (Counts registers rule) events i)
counts_at registers rule events i =
    item_decided (Counts registers rule) (counts_decided registers rule) events i (slice_get events i) refl

unfoldable pub yes : {P : Type 0} → Decided P → Bool
yes (inl p) = true
yes (inr not) = false

pub yes_is : {P : Type 0} (d : Decided P) → IsTrue (yes d) ↔ P
unfolding yes
yes_is (inl p) = (λ t. p, λ q. refl)
yes_is (inr not) = (λ t. cc, λ p. absurd (not p))

box_of_all : (i : ℕ) (events : List Event) (o : Option Attributes) (P : Attributes → Type 0)
    → raster_before (take i events) ≡ o → IsSomeAnd o P → (a : Attributes) × (raster_before events ≡ Some a)
unfolding raster_before
box_of_all i events None P is h = absurd h
box_of_all i events (Some a) P is h = (a, earliest_all raster_of i events a is)

in_box : (o : Option Attributes) (a : Attributes) (f : Attributes → ℕ) → o ≡ Some a → IsSomeAnd o (λ b. f a ≡ f b)
in_box o a f is = rw is refl

-- how often a rule counts that counts somewhere
often_of : (registers : ℕ) (rule : Rule) {events : List Event} {i : ℕ}
    → HoldsAtPosition (Counts registers rule) events i → (n : ℕ) × IsHowOften registers rule events n
unfolding Breaks BreaksUncovered
often_of registers Uncovered {events} {i} h =
    let box = box_of_all i events (raster_before (take i events)) _ refl h.holds.broken.1 in
    (blanks events box.0, in_box (raster_before events) box.0 (blanks events) box.1)
often_of registers rule {events} h = (
  length (filter (λ j. yes (counts_at registers rule events j)) (range_with_len 0 (length events))),
  record {
    holds = λ j. yes (counts_at registers rule events j);
    decides = λ j. yes_is (counts_at registers rule events j);
    often_is = refl;
  },
)

first_entry : (registers : ℕ) (placed : List Placed) (rule : Rule) (i : ℕ) → i < length placed
    → (h : HoldsAtPosition (Counts registers rule) (events_of placed) i)
    → ((j : ℕ) → j < i → ¬ HoldsAtPosition (Counts registers rule) (events_of placed) j)
    → (o : Option Entry) × IsEntryOf registers placed rule o
first_entry registers placed rule i lt h least =
    let events : List Event = events_of placed in
    let often = often_of registers rule h in
    let pixel = pixel_of registers rule (take i events) h.item h.holds.broken in
    let place = place_of placed i lt in (
      Some (record { rule = rule; count = often.0; place = place.0; pixel = pixel.0 }),
      (
        refl,
        i,
        record {
          counts = h;
          none_earlier = least;
          place = place.1;
          pixel = record { item = h.item; here = h.here; holds = pixel.1 };
          often = often.1;
        },
      ),
    )

pub entry_exists : (registers : ℕ) (placed : List Placed) (rule : Rule)
    → (o : Option Entry) × IsEntryOf registers placed rule o
entry_exists registers placed rule =
    let events : List Event = events_of placed in
    elim (least_below (HoldsAtPosition (Counts registers rule) events) (counts_at registers rule events)
    (length events)) [
      | inl f ↦
          first_entry registers placed rule f.number
          (subst (λ (n : ℕ). f.number < n) (length-map placed (λ (p : Placed). p.event)) f.below) f.holds f.least
      | inr none ↦ (
        None,
        λ i h. none i (holds_within (Counts registers rule) events i h) h,
      )
    ]

pub survey_exists : (registers : ℕ) → SomeSurvey registers
survey_exists registers placed =
    let entry_of = λ (rule : Rule). (entry_exists registers placed rule).0 in
    let entries : List Entry = filter_map entry_of all_rules in (
      record {
        entries = record { items = entries };
        size = size_if_none entries (picture_left registers (events_of placed));
      },
      record {
        entries = record {
          entry_of = entry_of;
          each = λ rule. (entry_exists registers placed rule).1;
          entries_are = refl;
        };
        size = refl;
      },
    )
