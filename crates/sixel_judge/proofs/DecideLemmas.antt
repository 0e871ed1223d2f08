-- A list has a verdict: a rule is broken, or none is.
use Rattle.std.proofs.Common.{◌≡◌, ◌<◌, ◌+◌, ◌-◌, ◌*◌, ◌⊎◌, ℕ, suc, Bool, true, false, nat_lt, inl, inr}
use Rattle.std.proofs.Common.{Option, Some, None, List, length, take, refl, sym, ap, subst, ◌∙◌, arith}
use Rattle.std.specs.Prelude.{IsSomeAnd, slice_get}
use Rattle.std.specs.Option.{option_map}
use Rattle.std.proofs.lemmas.Bool.{and_parts, ltb-true}
use Rattle.std.proofs.lemmas.List.{length-map}
use Rattle.sixel_grammar.specs.declared.command.Event.{Event}
use Rattle.sixel_grammar.specs.declared.command.Placed.{Placed}
use Rattle.sixel_grammar.specs.Document.{events_of}
use Rattle.sixel_model.specs.Events.{Attributes, bits_of, columns_of, is_finish, is_in_box}
use Rattle.sixel_model.specs.Geometry.{band, column, falls, touches}
use Rattle.sixel_model.specs.Positions.{HoldsAtPosition}
use Rattle.sixel_model.specs.Rules.{Breaks, BreaksNone, BreaksOutside, BreaksUncovered, FallsOutside, IsFirstBroken}
use Rattle.sixel_model.specs.Rules.{IsFirstPoint, StaysBlank, is_covered, last_rule, picture_left, raster_before}
use Rattle.sixel_model.specs.Rules.{number_of}
use Rattle.sixel_model.proofs.CoverLemmas.{lies_under}
use Rattle.sixel_model.proofs.LastLemmas.{item_there}
use Rattle.sixel_model.proofs.PositionLemmas.{holds_within}
use Rattle.sixel_model.proofs.RuleLemmas.{at_its_place, at_least_one, at_most_last, number_at, rule_at}
use Rattle.sixel_model.specs.declared.rule.Rule.{Rule}
use Rattle.sixel_model.specs.declared.rule.Rule.TheVariants.{Outside, Uncovered}
use Rattle.sixel_judge.specs.declared.verdict.Verdict.{Verdict}
use Rattle.sixel_judge.specs.declared.verdict.Verdict.TheVariants.{Portable, Broken}
use Rattle.sixel_judge.specs.Verdicts.{IsPixel, IsVerdict, capped}
use Rattle.sixel_judge.proofs.SearchLemmas.{Decided, LeastBelow, Searchable, decide_true, first_point, least_below}

-- ---- the two rules on points

-- P is decided, if it holds exactly when one test passes and the other fails
unfoldable pub decided_by : (P : Type 0) (b c : Bool) → (b ≡ true → c ≡ false → P) → (P → b ≡ true) → (P → c ≡ false)
    → Decided P
decided_by P true false make passes fails = inl (make refl refl)
decided_by P true true make passes fails = inr (λ p. let no : true ≡ false = fails p in cc)
decided_by P false c make passes fails = inr (λ p. let no : false ≡ true = passes p in cc)

pub falls_left : (before : List Event) (e : Event) (x y : ℕ) → falls before e x y ≡ true
    → (x < column 0 before + columns_of 0 e) × (y < 6 * band before + 6)
unfolding falls touches
falls_left before e x y h =
    let under = lies_under (column 0 before) (columns_of 0 e) (band before) (bits_of e) x y h in
    let row : y ≡ 6 * band before + under.bit = under.row in
    let bit : under.bit < 6 = under.below in
    (under.to, omega (arith, row, bit))

unfoldable pub falls_searchable : (before : List Event) (e : Event) (a : Attributes)
    → Searchable (FallsOutside before e a)
falls_searchable before e a = record {
  width = column 0 before + columns_of 0 e;
  height = 6 * band before + 6;
  decide = λ x y. decided_by _ (falls before e x y) (is_in_box a x y) (λ p q. record { painted = p; outside = q })
      (λ f. f.painted) (λ f. f.outside);
  left = λ x y f. (falls_left before e x y f.painted).0;
  above = λ x y f. (falls_left before e x y f.painted).1;
}

unfoldable pub blank_searchable : (before : List Event) (a : Attributes) → Searchable (StaysBlank before a)
blank_searchable before a = record {
  width = a.width;
  height = a.height;
  decide = λ x y. decided_by _ (is_in_box a x y) (is_covered before x y) (λ p q. record { inside = p; blank = q })
      (λ f. f.inside) (λ f. f.blank);
  left = λ x y f. ltb-true x a.width (and_parts (nat_lt x a.width) (nat_lt y a.height) f.inside).0;
  above = λ x y f. ltb-true y a.height (and_parts (nat_lt x a.width) (nat_lt y a.height) f.inside).1;
}

-- there is a box and a point of it with P, and a first such point
abbrev FirstOf : (Attributes → ℕ → ℕ → Type 0) → Option Attributes → Type 0
FirstOf P o =
    ((x : ℕ) × (y : ℕ) × IsFirstPoint (λ x y. IsSomeAnd o (λ a. P a x y)) x y)
    × IsSomeAnd o (λ a. (x : ℕ) × (y : ℕ) × P a x y)

unfoldable pub first_of : (P : Attributes → ℕ → ℕ → Type 0) (o : Option Attributes)
    → ((a : Attributes) → Searchable (P a)) → FirstOf P o ⊎ ¬ IsSomeAnd o (λ a. (x : ℕ) × (y : ℕ) × P a x y)
first_of P None s = inr (λ none. none)
first_of P (Some a) s = elim (first_point (P a) (s a)) [
  | inl f ↦ inl (f, (f.0, f.1, f.2.holds))
  | inr none ↦ inr (λ p. none p.0 p.1 p.2)
]

unfoldable pub outside_first : (before : List Event) (e : Event)
    → FirstOf (FallsOutside before e) (raster_before before) ⊎ ¬ BreaksOutside before e
unfolding BreaksOutside
outside_first before e = first_of (FallsOutside before e) (raster_before before) (falls_searchable before e)

unfoldable pub blank_first : (before : List Event) → FirstOf (StaysBlank before) (raster_before before)
    ⊎ ¬ IsSomeAnd (raster_before before) (λ a. (x : ℕ) × (y : ℕ) × StaysBlank before a x y)
blank_first before = first_of (StaysBlank before) (raster_before before) (blank_searchable before)

unfoldable pub outside_decided : (before : List Event) (e : Event) → Decided (BreaksOutside before e)
unfolding BreaksOutside
outside_decided before e = elim (outside_first before e) [ inl f ↦ inl f.1 | inr none ↦ inr none ]

unfoldable pub blank_somewhere : (before : List Event)
    → Decided (IsSomeAnd (raster_before before) (λ a. (x : ℕ) × (y : ℕ) × StaysBlank before a x y))
blank_somewhere before = elim (blank_first before) [ inl f ↦ inl f.1 | inr none ↦ inr none ]

unfoldable pub both_decided : (P Q : Type 0) → Decided P → Decided Q → Decided (P × Q)
both_decided P Q (inl p) (inl q) = inl (p, q)
both_decided P Q (inl p) (inr q) = inr (λ h. q h.1)
both_decided P Q (inr p) q = inr (λ h. p h.0)

unfoldable pub uncovered_decided : (before : List Event) (e : Event) → Decided (BreaksUncovered before e)
unfolding BreaksUncovered
uncovered_decided before e = both_decided _ _ (decide_true (is_finish e)) (blank_somewhere before)

-- ---- the lowest-numbered rule that an event breaks

unfoldable pub rule_decided : (registers : ℕ) (rule : Rule) (before : List Event) (e : Event)
    → Decided (Breaks registers rule before e)
unfolding Breaks
rule_decided registers Outside before e = outside_decided before e
rule_decided registers Uncovered before e = uncovered_decided before e
rule_decided registers _ before e = decide_true _

pub pixel_of : (registers : ℕ) (r : Rule) (before : List Event) (e : Event) → Breaks registers r before e
    → (pixel : Option (ℕ × ℕ)) × IsPixel r pixel before e
unfolding Breaks BreaksOutside BreaksUncovered
pixel_of registers Outside before e h = elim (outside_first before e) [
  | inl f ↦ (Some (capped f.0.0, capped f.0.1), (f.0.0, f.0.1, f.0.2, refl))
  | inr none ↦ absurd (none h)
]
pixel_of registers Uncovered before e h = elim (blank_first before) [
  | inl f ↦ (Some (capped f.0.0, capped f.0.1), (f.0.0, f.0.1, f.0.2, refl))
  | inr none ↦ absurd (none h.1)
]
pixel_of registers _ before e h = (None, refl)

-- ---- the first event that breaks a rule

-- the place in the order of the lowest-numbered rule that is broken at position i
abbrev LeastAt : ℕ → List Event → ℕ → Type 0
LeastAt registers events i = LeastBelow (λ k. HoldsAtPosition (Breaks registers (rule_at k)) events i) 13

unfoldable pub held_decided : (registers : ℕ) (rule : Rule) (events : List Event) (i : ℕ) (o : Option Event)
    → slice_get events i ≡ o → Decided (HoldsAtPosition (Breaks registers rule) events i)
held_decided registers rule events i None is = inr (λ h. let bad : Some h.item ≡ None = sym h.here ∙ is in cc)
held_decided registers rule events i (Some e) is = elim (rule_decided registers rule (take i events) e) [
  | inl b ↦ inl (record { item = e; here = is; holds = b })
  | inr not ↦ inr (λ h.
      let same : Some h.item ≡ Some e = sym h.here ∙ is in
      let item : h.item ≡ e = cc in
      not (subst (Breaks registers rule (take i events)) item h.holds))
]

-- a broken rule is broken as the one at its place
pub held_place : (registers : ℕ) (rule : Rule) {events : List Event} {i : ℕ}
    → HoldsAtPosition (Breaks registers rule) events i
    → HoldsAtPosition (Breaks registers (rule_at (number_of rule - 1))) events i
held_place registers rule {events} {i} h =
    subst (λ (r : Rule). HoldsAtPosition (Breaks registers r) events i) (sym (at_its_place rule)) h

unfoldable pub position_decided : (registers : ℕ) (events : List Event) (i : ℕ)
    → LeastAt registers events i ⊎ ((rule : Rule) → ¬ HoldsAtPosition (Breaks registers rule) events i)
position_decided registers events i =
    elim (least_below (λ k. HoldsAtPosition (Breaks registers (rule_at k)) events i)
    (λ k. held_decided registers (rule_at k) events i (slice_get events i) refl) 13) [
      | inl f ↦ inl f
      | inr none ↦ inr (λ rule h.
          none (number_of rule - 1) (place_below rule) (held_place registers rule h))
    ]
  where
    place_below : (rule : Rule) → number_of rule - 1 < 13
    place_below rule = let most = at_most_last rule in omega (arith, most)

unfoldable pub broken_decided : (registers : ℕ) (events : List Event) (i : ℕ) → Decided (LeastAt registers events i)
broken_decided registers events i = elim (position_decided registers events i) [
  | inl f ↦ inl f
  | inr none ↦ inr (λ f. none (rule_at f.number) f.holds)
]

first_broken : (registers : ℕ) (events : List Event) (f : LeastBelow (LeastAt registers events) (length events))
    → IsFirstBroken registers events (rule_at f.holds.number) f.number
first_broken registers events f = record {
  broken = f.holds.holds;
  none_earlier = λ m j lt h. elim (position_decided registers events j) [
    | inl g ↦ f.least j lt g
    | inr none ↦ none m h
  ];
  none_smaller = λ m lt h.
      let low : number_of m < suc f.holds.number = rw (number_at f.holds.number f.holds.below) at lt in
      let some = at_least_one m in
      f.holds.least (number_of m - 1) (omega (arith, low, some)) (held_place registers m h);
}

pub place_of : (placed : List Placed) (i : ℕ) → i < length placed
    → (place : ℕ) × (option_map (λ (p : Placed). p.place) (slice_get placed i) ≡ Some place)
place_of placed i lt =
    let p = item_there placed i lt in (p.0.place, ap (option_map (λ (p : Placed). p.place)) p.1)

-- there is a first event that breaks a rule, or no event does
unfoldable pub broken_or_none : (registers : ℕ) (events : List Event)
    → LeastBelow (LeastAt registers events) (length events) ⊎ BreaksNone registers last_rule events
unfolding BreaksNone
broken_or_none registers events =
    elim (least_below (LeastAt registers events) (broken_decided registers events) (length events)) [
      | inl f ↦ inl f
      | inr none ↦ inr (λ rule le i h. elim (position_decided registers events i) [
        | inl g ↦ none i (holds_within (Breaks registers rule) events i h) g
        | inr not ↦ not rule h
      ])
    ]

pub verdict_exists : (registers : ℕ) (placed : List Placed) → (v : Verdict) × IsVerdict registers placed v
verdict_exists registers placed =
    let events : List Event = events_of placed in
    elim (broken_or_none registers events) [
      | inl f ↦
          let i : ℕ = f.number in
          let rule : Rule = rule_at f.holds.number in
          let held : HoldsAtPosition (Breaks registers rule) events i = f.holds.holds in
          let pixel = pixel_of registers rule (take i events) held.item held.holds in
          let place = place_of placed i
          (subst (λ (n : ℕ). i < n) (length-map placed (λ (p : Placed). p.event)) f.below) in (
            Broken (record { rule = rule; place = place.0; pixel = pixel.0 }),
            (
              i,
              record {
                first = first_broken registers events f;
                place = place.1;
                pixel = record { item = held.item; here = held.here; holds = pixel.1 };
              },
            ),
          )
      | inr none ↦ (Portable (picture_left registers events), (none, refl))
    ]
