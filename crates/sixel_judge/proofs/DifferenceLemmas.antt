-- A finding of the rules on pixels and on 8-bit controls names a difference between terminals.
use Rattle.std.proofs.Common.{◌≡◌, ◌<◌, ◌≤◌, ◌+◌, ◌⊎◌, inl, inr, lit≤, ℕ, zero, suc, Bool, true, false, ◌&&◌, ◌||◌, not}
use Rattle.std.proofs.Common.{Option, Some, None, List, [], ◌∷◌, length, take, refl, sym, ◌∙◌, arith}
use Rattle.std.specs.Prelude.{nat_le, nat_lt, slice_get, IfSome, IsSome, IsSomeAnd, if◌then◌else◌}
use Rattle.std.specs.List.{AllByRecursion, list_any}
use Rattle.std.specs.Option.{option_map_or}
use Rattle.std.proofs.Math.Nat.{eq-or-lt_of_le}
use Rattle.std.proofs.Math.Seq.{take-length}
use Rattle.std.proofs.lemmas.Bool.{and_parts, both_ways, cases_lt, leb-true, ltb-true, not-false, or_right}
use Rattle.std.proofs.lemmas.Option.{slice_get_within}
use Rattle.sixel_grammar.specs.declared.command.Event.{Event}
use Rattle.sixel_grammar.specs.declared.command.Event.TheVariants.{Finish}
use Rattle.sixel_grammar.specs.declared.command.Placed.{Placed}
use Rattle.sixel_grammar.specs.Document.{AreWhole, events_of}
use Rattle.sixel_model.specs.Events.{Attributes, has_sides, is_data_command, is_eight_bit, is_finish, is_in_box}
use Rattle.sixel_model.specs.Events.{raster_of}
use Rattle.sixel_model.specs.Colours.{palette_at}
use Rattle.sixel_model.specs.Geometry.{falls}
use Rattle.sixel_model.specs.Pictures.{is_side, register_of}
use Rattle.sixel_model.specs.Positions.{HoldsAtPosition, any_at, earliest, passes_at}
use Rattle.sixel_model.specs.Rules.{Breaks, BreaksNone, BreaksUncovered, FallsOutside, IsFirstBroken, StaysBlank}
use Rattle.sixel_model.specs.Rules.{breaks_box_size, breaks_eight_bit, breaks_raster_first, is_covered, picture_left}
use Rattle.sixel_model.specs.Rules.{number_of, raster_before}
use Rattle.sixel_model.proofs.CoverLemmas.{any_below_at}
use Rattle.sixel_model.proofs.FirstLemmas.{earliest_all}
use Rattle.sixel_model.proofs.LastLemmas.{passes_there}
use Rattle.sixel_model.proofs.LatestLemmas.{each_from_positions}
use Rattle.sixel_model.proofs.PositionLemmas.{holds_within}
use Rattle.sixel_model.proofs.RuleLemmas.{is_false}
use Rattle.sixel_terminal.specs.declared.choices.Ground.{Ground}
use Rattle.sixel_terminal.specs.declared.choices.Ground.TheVariants.{Kept}
use Rattle.sixel_terminal.specs.Displays.{Display, registers_of}
use Rattle.sixel_terminal.specs.Drawing.{IsPainted, filled_on, is_kept_on, is_seen_on, paint_at, paints_in, selected_on}
use Rattle.sixel_terminal.specs.Drawing.{shown_on, touches_on}
use Rattle.sixel_terminal.proofs.ClipLemmas.{at_origin}
use Rattle.sixel_terminal.proofs.ShownLemmas.{unpainted}
use Rattle.sixel_model.specs.declared.rule.Rule.{Rule}
use Rattle.sixel_model.specs.declared.rule.Rule.TheVariants.{RasterFirst, BoxSize, Outside, Uncovered, EightBit}
use Rattle.sixel_judge.specs.declared.verdict.Finding.{Finding}
use Rattle.sixel_judge.specs.declared.verdict.Verdict.{Verdict}
use Rattle.sixel_judge.specs.declared.verdict.Verdict.TheVariants.{Portable, Broken}
use Rattle.sixel_judge.specs.Alarms.{IsPaintedUnlessClipped, IsUnseenWithoutEightBits, MattersUnlessConservative}
use Rattle.sixel_judge.specs.Alarms.{StaysOnEach, WhatTerminalsDo}
use Rattle.sixel_judge.specs.Verdicts.{IsFinding, IsVerdict, IsPixel, capped, greatest}
use Rattle.sixel_judge.proofs.AlarmLemmas.{below_first, finish_last, not_there, plain_up_to, same_up_to, taken_get}
use Rattle.sixel_judge.proofs.AlarmLemmas.{taken_there, taken_twice}
use Rattle.sixel_judge.proofs.CoverLemmas.{box_later, box_there}
use Rattle.sixel_judge.proofs.OptionLemmas.{or_each, same_value, some_from, some_value}
use Rattle.sixel_judge.proofs.ShownLemmas.{shows_left, size_left}
use Rattle.sixel_judge.proofs.WithinLemmas.{if_seen, touches_data}

-- ---- what paints a point on a terminal that keeps its ground

painted_if : (touched kept : Bool) (r : Option ℕ) → IsSome (if touched && kept then r else None)
    → (touched ≡ true) × (kept ≡ true)
painted_if true true r h = (refl, refl)
painted_if true false r h = cc
painted_if false kept r h = cc

kept_fills : (g : Ground) (e : Event) (x y : ℕ) → g ≡ Kept → filled_on g e x y ≡ None
kept_fills g e x y is = rw is refl

-- the event touches the point, and may paint it
record IsTouch (t : Display) (before : List Event) (e : Event) (x y : ℕ) : Type 0 where
  pub touched : touches_on t before e x y ≡ true
  pub kept : is_kept_on t before x y ≡ true

touch_of : (t : Display) (events before : List Event) (e : Event) (x y : ℕ) → t.choices.ground ≡ Kept
    → IsSome (paints_in t events before e (t.choices.origin_x + x) (t.choices.origin_y + y)) → IsTouch t before e x y
touch_of t events before e x y ground some =
    let painted : IsSome (paint_at t before e x y) =
    rw (at_origin t before e x y) at (if_seen (is_seen_on t events) _ some) in
    let both = painted_if (touches_on t before e x y) (is_kept_on t before x y) (Some (selected_on t before))
    (rw (kept_fills t.choices.ground e x y ground) at painted) in
    record { touched = both.0; kept = both.1 }

-- ---- a box before each data command

-- up to the first broken rule, a data command has a box before it
box_up_to : {registers i : ℕ} {rule : Rule} {events : List Event} → IsFirstBroken registers events rule i
    → (j : ℕ) (e : Event) → number_of RasterFirst < number_of rule → j ≤ i → slice_get events j ≡ Some e → is_data_command e ≡ true
    → IsSome (raster_before (take j events))
unfolding Breaks breaks_raster_first
box_up_to {registers} {i} {rule} {events} f j e lt le here is_data =
    let none = is_false _
    (not_there registers RasterFirst j events e (below_first f RasterFirst j lt le) here)
    in some_from (raster_before (take j events)) (only_box _ _ _ _ is_data none)
  where
    only_box : (none given back ends : Bool) → given ≡ true → (none && (given || back || ends)) ≡ false → none ≡ false
    only_box true given back ends is h = let no : true ≡ false = rw is at h in cc
    only_box false given back ends is h = refl

-- ---- a pixel that stays unpainted

data_no_finish : (e : Event) → is_data_command e ≡ true → is_finish e ≡ true → ⊥
data_no_finish (Finish eight) h f = cc
data_no_finish _ h f = cc

covered_by : (i j : ℕ) (events : List Event) (e : Event) (x y : ℕ) → j < i → slice_get events j ≡ Some e
    → falls (take j events) e x y ≡ true → is_covered (take i events) x y ≡ true
unfolding is_covered any_at
covered_by i j events e x y lt here fell =
    let there : slice_get (take i events) j ≡ Some e = taken_get i j events lt ∙ here in
    let prefix : take j (take i events) ≡ take j events = taken_twice j i events (omega (arith, lt)) in
    any_below_at (length (take i events)) j (passes_at (λ earlier d. falls earlier d x y) (take i events))
    (slice_get_within (take i events) j e there)
    (passes_there (λ earlier d. falls earlier d x y) (take i events) j e there ∙ rw prefix fell)

-- on a terminal that keeps its ground, no event paints a pixel that stays unpainted
none_painted : {registers i : ℕ} (j : ℕ) {x y : ℕ} {t : Display} {events : List Event} (e : Event) {d : Event}
    {a : Attributes} → AreWhole events → IsFirstBroken registers events Uncovered i → slice_get events i ≡ Some e
    → is_finish e ≡ true → StaysBlank (take i events) a x y → slice_get events j ≡ Some d
    → IsTouch t (take j events) d x y → ⊥
unfolding touches_on
none_painted {i} j {x} {y} {t} {events} e {d} whole f here ends blank there touch =
    let is_data : is_data_command d ≡ true = touches_data _ _ (take j events) d x y touch.touched in
    let last : length events ≡ suc i = finish_last events i e whole here ends in
    let below : j < length events = slice_get_within events j d there in
    elim (eq-or-lt_of_le (at_most last below)) [
      | inl same ↦
          let item : d ≡ e = same_value (slice_get events i) d e (rw same at there) here in
          data_no_finish e (rw item at is_data) ends
      | inr less ↦
          let box = box_up_to f j d (lit≤ tt) (omega (arith, less)) there is_data in
          let fell : falls (take j events) d x y ≡ true =
          sym (same_up_to t events i j d x y (plain_up_to f (lit≤ tt)) (omega (arith, less)) there box)
          ∙ touch.touched in
          both_ways (is_covered (take i events) x y) blank.blank (covered_by i j events d x y less there fell)
    ]
  where
    at_most : {k : ℕ} → k ≡ suc i → j < k → j ≤ i
    at_most is lt = omega (arith, is, lt)

pub stays_on_each : {registers i x y : ℕ} {events : List Event} (e : Event) {a : Attributes} → AreWhole events
    → IsFirstBroken registers events Uncovered i → slice_get events i ≡ Some e → is_finish e ≡ true
    → StaysBlank (take i events) a x y → StaysOnEach registers events x y
unfolding IsPainted
stays_on_each {x} {y} {events} e whole f here ends blank = λ t room ground.
    unpainted t events _ _ (λ painted. none_painted painted.0 e whole f here ends blank (painted.1).here
    (touch_of t events (take painted.0 events) (painted.1).item x y ground (painted.1).holds))

-- ---- a pixel outside the box

all_seen : (t : Display) (events : List Event) → t.choices.eight_bit ≡ true → is_seen_on t events ≡ true
unfolding is_seen_on
all_seen t events bits = rw bits refl

none_clipped : (t : Display) (before : List Event) (x y : ℕ) → t.choices.clips ≡ false → is_kept_on t before x y ≡ true
unfolding is_kept_on
none_clipped t before x y clips = rw clips refl

touched_there : {registers i x y : ℕ} (t : Display) {events : List Event} {e : Event} {a : Attributes}
    → IsFirstBroken registers events Outside i → slice_get events i ≡ Some e → raster_before (take i events) ≡ Some a
    → FallsOutside (take i events) e a x y → touches_on t (take i events) e x y ≡ true
touched_there {i} {x} {y} t {events} {e} f here box out =
    same_up_to t events i i e x y (plain_up_to f (lit≤ tt)) (omega arith) here (rw box refl) ∙ out.painted

painted_there : (registers i x y : ℕ) (t : Display) (events : List Event) (e : Event) (a : Attributes)
    → IsFirstBroken registers events Outside i → slice_get events i ≡ Some e → raster_before (take i events) ≡ Some a
    → FallsOutside (take i events) e a x y → t.choices.clips ≡ false → t.choices.eight_bit ≡ true
    → IsSome (paints_in t events (take i events) e (t.choices.origin_x + x) (t.choices.origin_y + y))
painted_there registers i x y t events e a f here box out clips eight =
    let touched = touched_there t f here box out in
    rw (
      all_seen t events eight,
      at_origin t (take i events) e x y,
      touched,
      none_clipped t (take i events) x y clips,
    ) refl

-- the first raster attributes stay the first
one_box : (i j : ℕ) (events : List Event) (a b : Attributes) → raster_before (take i events) ≡ Some a
    → raster_before (take j events) ≡ Some b → b ≡ a
unfolding raster_before
one_box i j events a b first other =
    same_value (raster_before events) b a (earliest_all raster_of j events b other)
    (earliest_all raster_of i events a first)

kept_in_box : (clips : Bool) (o : Option Attributes) (b : Attributes) (x y : ℕ) → clips ≡ true → o ≡ Some b
    → (not clips || option_map_or (λ a. is_in_box a x y) o true) ≡ true → is_in_box b x y ≡ true
kept_in_box clips o b x y is box h = rw (is, box) at h

box_anywhere : {registers i : ℕ} {events : List Event} (j : ℕ) (d : Event) (a : Attributes)
    → IsFirstBroken registers events Outside i → raster_before (take i events) ≡ Some a
    → slice_get events j ≡ Some d → is_data_command d ≡ true → i < j ⊎ j ≤ i → IsSome (raster_before (take j events))
box_anywhere {registers} {i} {events} j d a f box there is_data (inr le) = box_up_to f j d (lit≤ tt) le there is_data
box_anywhere {registers} {i} {events} j d a f box there is_data (inl lt) =
    box_later i j events (omega (arith, lt)) (rw box refl)

-- on a terminal that clips to the box, no event paints a point outside it
none_outside : (registers i j x y : ℕ) (t : Display) (events : List Event) (d : Event) (a : Attributes)
    → IsFirstBroken registers events Outside i → raster_before (take i events) ≡ Some a → is_in_box a x y ≡ false
    → t.choices.clips ≡ true → slice_get events j ≡ Some d → IsTouch t (take j events) d x y → ⊥
unfolding touches_on is_kept_on
none_outside registers i j x y t events d a f box out clips there touch =
    let is_data : is_data_command d ≡ true = touches_data _ _ (take j events) d x y touch.touched in
    let b = some_value (raster_before (take j events))
    (box_anywhere j d a f box there is_data (cases_lt i j)) in
    let inside : is_in_box b.0 x y ≡ true =
    kept_in_box t.choices.clips (raster_before (take j events)) b.0 x y clips b.1 touch.kept in
    both_ways (is_in_box a x y) out (rw (one_box i j events a b.0 box b.1) at inside)

pub cut_off_by_some : {registers i x y : ℕ} {events : List Event} {e : Event} {a : Attributes}
    → IsFirstBroken registers events Outside i → slice_get events i ≡ Some e → raster_before (take i events) ≡ Some a
    → FallsOutside (take i events) e a x y → IsPaintedUnlessClipped registers events i x y
unfolding IsPainted
cut_off_by_some {registers} {i} {x} {y} {events} {e} {a} f here box out = record {
  painted = λ t class clips eight. record {
    item = e;
    here = here;
    holds = painted_there registers i x y t events e a f here box out clips eight;
  };
  cut_off = λ t class clips ground painted.
      none_outside registers i painted.0 x y t events (painted.1).item a f box out.outside clips (painted.1).here
      (touch_of t events (take painted.0 events) (painted.1).item x y ground (painted.1).holds);
}

-- ---- an 8-bit control

any_there : (f : Event → Bool) (events : List Event) (i : ℕ) (e : Event) → slice_get events i ≡ Some e → f e ≡ true
    → list_any f events ≡ true
any_there f [] i e here h = cc
any_there f (d ∷ ds) zero e here h = let same : d ≡ e = cc in rw (same, h) refl
any_there f (d ∷ ds) (suc i) e here h = or_right (f d) (list_any f ds) (any_there f ds i e here h)

none_seen : (t : Display) (events : List Event) (i : ℕ) (e : Event) → slice_get events i ≡ Some e
    → is_eight_bit e ≡ true → t.choices.eight_bit ≡ false → is_seen_on t events ≡ false
unfolding is_seen_on
none_seen t events i e here eight bits = rw (bits, any_there is_eight_bit events i e here eight) refl

-- if the first broken rule is EightBit, at the finish, then no other rule is broken
pub unbroken_but_last : {registers i : ℕ} (events : List Event) (e : Event) → AreWhole events
    → IsFirstBroken registers events EightBit i → slice_get events i ≡ Some e → is_finish e ≡ true
    → BreaksNone registers Uncovered events
unfolding BreaksNone
unbroken_but_last {registers} {i} events e whole f here ends = λ rule le j h.
    let last : length events ≡ suc i = finish_last events i e whole here ends in
    let below : j < length events = holds_within (Breaks registers rule) events j h in
    below_first f rule j (omega (arith, le)) (omega (arith, last, below)) h

shown_left : (registers x y : ℕ) (t : Display) (events : List Event) (a : Attributes) → AreWhole events
    → BreaksNone registers Uncovered events → is_seen_on t events ≡ true → registers ≤ registers_of t
    → raster_before events ≡ Some a → x < (picture_left registers events).width
    → y < (picture_left registers events).height
    → palette_at (picture_left registers events).palette (register_of (picture_left registers events) x y)
    ≡ Some (shown_on t events (t.choices.origin_x + x) (t.choices.origin_y + y))
shown_left registers x y t events a whole drawn seen enough box p q =
    let sides = size_left registers events a box in
    shows_left registers t events a x y whole drawn seen enough box (rw sides.0 at p) (rw sides.1 at q)

pub unseen_by_some : {registers i : ℕ} {events : List Event} (e : Event) → AreWhole events
    → IsFirstBroken registers events EightBit i → slice_get events i ≡ Some e → is_eight_bit e ≡ true
    → IsUnseenWithoutEightBits registers events i
unfolding IsPainted
unseen_by_some {registers} {i} {events} e whole f here eight = record {
  unpainted = λ t x y class bits painted.
      let none = none_seen t events i e here eight bits in
      let some = (painted.1).holds in
      no_value (is_seen_on t events) _ none some;
  shown = λ end t x y room bits p q.
      let drawn = unbroken_but_last events end.item whole f end.here end.holds in
      let a = some_value (raster_before events) (box_there registers events whole drawn) in
      shown_left registers x y t events a.0 whole drawn (all_seen t events bits) room.in_class.enough a.1 p q;
}
  where
    no_value : {A : Type 0} (b : Bool) (o : Option A) → b ≡ false → IsSome (if b then o else None) → ⊥
    no_value true o is h = cc
    no_value false o is h = cc

-- ---- the size of the box, if the first broken rule comes after BoxSize

pub earliest_each : {X A : Type 0} (f : X → Option A) (P : A → Type 0) (xs : List X)
    → AllByRecursion (λ x. IfSome (f x) P) xs → IfSome (earliest f xs) P
unfolding earliest
earliest_each f P [] h = tt
earliest_each f P (x ∷ xs) h = or_each P (f x) (earliest f xs) h.0 (earliest_each f P xs h.1)

pub sides_if : (o : Option Attributes) → option_map_or (λ a. not (has_sides a)) o false ≡ false
    → IfSome o (λ a. has_sides a ≡ true)
sides_if None h = tt
sides_if (Some a) h = not-false _ h

prefix_sides : {registers i : ℕ} {rule : Rule} {events : List Event} (k : ℕ) (a : Attributes)
    → IsFirstBroken registers events rule i → number_of BoxSize < number_of rule → k ≤ suc i
    → raster_before (take k events) ≡ Some a → has_sides a ≡ true
unfolding Breaks breaks_box_size raster_before
prefix_sides {registers} {i} {rule} {events} k a f lt le box =
    rw box at (earliest_each raster_of (λ a. has_sides a ≡ true) (take k events)
    (each_from_positions (λ e. IfSome (raster_of e) (λ a. has_sides a ≡ true)) (take k events)
    (λ j e here. let at = taken_there k j events e here in
    sides_if (raster_of e) (is_false _ (not_there registers BoxSize j events e
    (below_first f BoxSize j lt (omega (arith, at.0, le))) at.1)))))

pub box_sides : {registers i : ℕ} {rule : Rule} {events : List Event} (a : Attributes)
    → IsFirstBroken registers events rule i → number_of BoxSize < number_of rule → raster_before (take i events) ≡ Some a → has_sides a ≡ true
box_sides {i = i} a f lt box = prefix_sides i a f lt (omega arith) box

-- the box of a list whose last event breaks EightBit, its first broken rule, has sides in range
pub box_of_prefix : (registers i : ℕ) (events : List Event) (a : Attributes) → IsFirstBroken registers events EightBit i
    → length events ≡ suc i → raster_before events ≡ Some a → has_sides a ≡ true
box_of_prefix registers i events a f last box =
    prefix_sides (suc i) a f (lit≤ tt) (omega arith) (rw (sym last) (rw (take-length events) box))

-- a coordinate inside a box of such sides is far below the cap
small : (x w : ℕ) → nat_lt x w ≡ true → is_side w ≡ true → capped x ≡ x
small x w lt side =
    let below : x < w = ltb-true x w lt in
    let most : w ≤ 2048 = leb-true w 2048 (and_parts (nat_le 1 w) (nat_le w 2048) side).1 in
    omega (arith, below, most)

pub small_point : (a : Attributes) (x y : ℕ) → is_in_box a x y ≡ true → has_sides a ≡ true
    → (capped x ≡ x) × (capped y ≡ y)
small_point a x y inside sides =
    let at = and_parts (nat_lt x a.width) (nat_lt y a.height) inside in
    let each = and_parts (is_side a.width) (is_side a.height) sides in
    (small x a.width at.0 each.0, small y a.height at.1 each.1)

-- a capped coordinate below the cap is the coordinate itself
not_stopped : (x : ℕ) → capped x < greatest → capped x ≡ x
not_stopped x lt = omega (arith, lt)

-- ---- each finding

pub and_some : {A : Type 0} (o : Option A) (P : A → Type 0) → IsSomeAnd o P → (a : A) × (o ≡ Some a) × P a
and_some None P h = absurd h
and_some (Some a) P h = (a, refl, h)

ends_there : {registers i : ℕ} {events : List Event} (e : Event) → IsFirstBroken registers events Uncovered i
    → slice_get events i ≡ Some e → is_finish e ≡ true
unfolding Breaks BreaksUncovered
ends_there {registers} {i} {events} e f here =
    let same : f.broken.item ≡ e = same_value (slice_get events i) f.broken.item e f.broken.here here in
    rw same at f.broken.holds.0

eight_there : {registers i : ℕ} {events : List Event} (e : Event) → IsFirstBroken registers events EightBit i
    → slice_get events i ≡ Some e → is_eight_bit e ≡ true
unfolding Breaks breaks_eight_bit
eight_there {registers} {i} {events} e f here =
    let same : f.broken.item ≡ e = same_value (slice_get events i) f.broken.item e f.broken.here here in
    rw same at f.broken.holds

uncovered_differs : {registers i : ℕ} {events : List Event} (pixel : Option (ℕ × ℕ)) → AreWhole events
    → IsFirstBroken registers events Uncovered i → HoldsAtPosition (IsPixel Uncovered pixel) events i
    → WhatTerminalsDo registers events Uncovered pixel i
uncovered_differs {i} {events} pixel whole f at =
    let x : ℕ = at.holds.0 in let y : ℕ = at.holds.1 in
    let a = and_some (raster_before (take i events)) _ (at.holds.2).holds in
    let blank : StaysBlank (take i events) a.0 x y = a.2 in
    let same = small_point a.0 x y blank.inside (box_sides a.0 f (lit≤ tt) a.1) in
    rw (at.holds.3, same.0, same.1) (stays_on_each at.item whole f at.here (ends_there at.item f at.here) blank)

outside_differs : {registers i : ℕ} {events : List Event} (pixel : Option (ℕ × ℕ))
    → IsFirstBroken registers events Outside i → HoldsAtPosition (IsPixel Outside pixel) events i
    → WhatTerminalsDo registers events Outside pixel i
outside_differs {i} {events} pixel f at =
    let x : ℕ = at.holds.0 in let y : ℕ = at.holds.1 in
    let a = and_some (raster_before (take i events)) _ (at.holds.2).holds in
    rw at.holds.3
    (λ low high. rw (not_stopped x low, not_stopped y high) (cut_off_by_some f at.here a.1 a.2))

difference_of : {registers i : ℕ} {events : List Event} (r : Rule) (pixel : Option (ℕ × ℕ)) → AreWhole events
    → IsFirstBroken registers events r i → HoldsAtPosition (IsPixel r pixel) events i
    → WhatTerminalsDo registers events r pixel i
difference_of Uncovered pixel whole f at = uncovered_differs pixel whole f at
difference_of Outside pixel whole f at = outside_differs pixel f at
difference_of EightBit pixel whole f at = unseen_by_some at.item whole f at.here (eight_there at.item f at.here)
difference_of _ pixel whole f at = tt

-- what terminals do at a finding on a whole list
pub found_truly : (registers : ℕ) (placed : List Placed) (f : Finding) (i : ℕ) → AreWhole (events_of placed)
    → IsFinding registers placed f i → WhatTerminalsDo registers (events_of placed) f.rule f.pixel i
found_truly registers placed f i whole found = difference_of f.rule f.pixel whole found.first found.pixel

-- a finding in a verdict on a whole list matters, unless its rule is conservative
pub verdict_matters : (registers : ℕ) (placed : List Placed) (v : Verdict) → AreWhole (events_of placed)
    → IsVerdict registers placed v → MattersUnlessConservative registers placed v
verdict_matters registers placed (Portable picture) whole k = tt
verdict_matters registers placed (Broken f) whole k = (k.0, k.1, found_truly registers placed f k.0 whole k.1)
