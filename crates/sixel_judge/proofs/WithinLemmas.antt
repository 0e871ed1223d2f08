-- Everything that is painted lies in the box, if no rule is broken.
use Rattle.std.proofs.Common.{◌≡◌, ◌<◌, ◌≤◌, ◌+◌, ◌-◌, ℕ, Bool, true, false, ◌&&◌, ◌||◌, cond, not, Option, Some, None}
use Rattle.std.proofs.Common.{List, take, refl, sym, ap, ◌∙◌, arith}
use Rattle.std.specs.Prelude.{nat_le, nat_lt, slice_get, IfSome, IsFalse, IsSome, IsTrue, if◌then◌else◌}
use Rattle.std.specs.Bool.{then_some}
use Rattle.std.specs.Option.{option_and_then, option_map_or}
use Rattle.std.proofs.lemmas.Bool.{and_parts, leb-true, ltb-true, not-false, true_from_ne_false}
use Rattle.std.proofs.Math.Bool.{or-true}
use Rattle.sixel_grammar.specs.declared.command.Event.{Event}
use Rattle.sixel_model.specs.Events.{Attributes, columns_of, is_data_command, is_in_box, is_repeat_of_zero, is_square}
use Rattle.sixel_model.specs.Events.{raster_of}
use Rattle.sixel_model.specs.Geometry.{band, column, covers, falls, touches}
use Rattle.sixel_model.specs.Positions.{HoldsAtPosition, any_below}
use Rattle.sixel_model.specs.Rules.{BreaksNone, BreaksOutside, breaks_ratio, breaks_repeat_zero, raster_before}
use Rattle.sixel_model.proofs.FirstLemmas.{earliest_all, earliest_there}
use Rattle.sixel_model.proofs.LatestLemmas.{each_from_positions}
use Rattle.sixel_model.proofs.RuleLemmas.{Keeps, keeps_at}
use Rattle.sixel_model.specs.declared.rule.Rule.TheVariants.{Uncovered}
use Rattle.sixel_terminal.specs.declared.choices.Ground.{Ground}
use Rattle.sixel_terminal.specs.declared.choices.Ground.TheVariants.{Kept, Filled}
use Rattle.sixel_terminal.specs.Displays.{Display, clipping}
use Rattle.sixel_terminal.specs.Drawing.{IsPainted, filled_on, height_of, is_kept_on, is_seen_on, paint_at, paints_on}
use Rattle.sixel_terminal.specs.Drawing.{selected_on, touches_on}
use Rattle.sixel_terminal.specs.Laws.{IsPlain}
use Rattle.sixel_terminal.proofs.PlainLemmas.{same_points_on_each}
use Rattle.sixel_judge.specs.Laws.{ClippingChangesNothing, NonePaintedOutside}
use Rattle.sixel_judge.proofs.CoverLemmas.{box_at_data, one_box}
use Rattle.sixel_judge.proofs.DrawnLemmas.{no_data_bits}
use Rattle.sixel_judge.proofs.OptionLemmas.{none_from, same_value, some_value}

covers_blank : (left count line rows x y : ℕ) → covers left count line rows 0 x y ≡ true → ⊥
unfolding covers any_below
covers_blank left count line rows x y h =
    let parts : ((nat_le left x && nat_lt x (left + count)) ≡ true) × (false ≡ true) = and_parts _ _ h in
    let no : false ≡ true = parts.1 in
    cc

-- an event that paints a point with its bits is a data command
pub touches_data : (z rows : ℕ) (before : List Event) (e : Event) (x y : ℕ) → touches z rows before e x y ≡ true
    → is_data_command e ≡ true
unfolding touches
touches_data z rows before e x y h =
    true_from_ne_false (is_data_command e)
    (λ none. covers_blank (column z before) (columns_of z e) (band before) rows x y (rw (no_data_bits e none) at h))

-- ---- a list in which no rule is broken is plain

pub square_if : (o : Option Attributes) → option_map_or (λ a. not (is_square a)) o false ≡ false
    → IfSome o (λ a. IsTrue (is_square a))
square_if None h = tt
square_if (Some a) h = not-false _ h

pub plain : (n : ℕ) (events : List Event) → BreaksNone n Uncovered events → IsPlain events
unfolding breaks_ratio breaks_repeat_zero
plain n events none = record {
  no_repeat_of_zero = each_from_positions (λ e. IsFalse (is_repeat_of_zero e)) events
      (λ j e here. (keeps_at n events none j e here).repeat_zero);
  square = each_from_positions (λ e. IfSome (raster_of e) (λ a. IsTrue (is_square a))) events
      (λ j e here. square_if (raster_of e) (keeps_at n events none j e here).ratio);
}

-- ---- what each event paints

-- the box before an event is the box of the list
box_is : (i : ℕ) (events : List Event) (a b : Attributes) → raster_before (take i events) ≡ Some b
    → raster_before events ≡ Some a → b ≡ a
unfolding raster_before
box_is i events a b h box = same_value (raster_before events) b a (earliest_all raster_of i events b h) box

-- raster attributes with none before them declare the box of the list
box_there_is : (i : ℕ) (events : List Event) (e : Event) (a b : Attributes) → slice_get events i ≡ Some e
    → raster_before (take i events) ≡ None → raster_of e ≡ Some b → raster_before events ≡ Some a → b ≡ a
unfolding raster_before
box_there_is i events e a b here none is box =
    same_value (raster_before events) b a (earliest_there raster_of i events e b here none is) box

inside_box : (before : List Event) (e : Event) (a : Attributes) (x y : ℕ) → ¬ BreaksOutside before e
    → raster_before before ≡ Some a → falls before e x y ≡ true → is_in_box a x y ≡ true
unfolding BreaksOutside
inside_box before e a x y k box fell =
    true_from_ne_false (is_in_box a x y) (λ out. k (rw box (x, y, record { painted = fell; outside = out })))

-- every point that a data command paints on a terminal lies in the box
data_inside : (n : ℕ) (t : Display) (events : List Event) (a : Attributes) (i : ℕ) (e : Event) (x y : ℕ)
    → BreaksNone n Uncovered events → raster_before events ≡ Some a → slice_get events i ≡ Some e
    → touches_on t (take i events) e x y ≡ true → is_in_box a x y ≡ true
unfolding touches_on
data_inside n t events a i e x y none box here touched =
    let k : Keeps n (take i events) e = keeps_at n events none i e here in
    let there : IsSome (raster_before (take i events))
    = box_at_data n (take i events) e k (touches_data _ _ (take i events) e x y touched) in
    let b : (b : Attributes) × (raster_before (take i events) ≡ Some b) = some_value _ there in
    let at : raster_before (take i events) ≡ Some a
    = b.1 ∙ ap (λ (c : Attributes). Some c) (box_is i events a (b.0) (b.1) box) in
    let fell : falls (take i events) e x y ≡ true
    = sym (same_points_on_each t events i e x y (plain n events none) here there) ∙ touched in
    inside_box (take i events) e a x y k.outside at fell

-- clipping cuts off no point of the box before
kept_inside : (t : Display) (before : List Event) (a : Attributes) (x y : ℕ) → raster_before before ≡ Some a
    → is_in_box a x y ≡ true → is_kept_on t before x y ≡ true
unfolding is_kept_on
kept_inside t before a x y box inside = rw (box, inside) (or-true (not t.choices.clips))

-- clipping cuts off no point that a data command touches
pub data_kept : (n : ℕ) (t u : Display) (events : List Event) (i : ℕ) (e : Event) (x y : ℕ)
    → BreaksNone n Uncovered events → slice_get events i ≡ Some e → touches_on t (take i events) e x y ≡ true
    → is_kept_on u (take i events) x y ≡ true
unfolding touches_on
data_kept n t u events i e x y none here touched =
    let k : Keeps n (take i events) e = keeps_at n events none i e here in
    let there : IsSome (raster_before (take i events))
    = box_at_data n (take i events) e k (touches_data _ _ (take i events) e x y touched) in
    let b : (b : Attributes) × (raster_before (take i events) ≡ Some b) = some_value _ there in
    let fell : falls (take i events) e x y ≡ true
    = sym (same_points_on_each t events i e x y (plain n events none) here there) ∙ touched in
    kept_inside u (take i events) (b.0) x y (b.1) (inside_box (take i events) e (b.0) x y k.outside (b.1) fell)

inside_if : (r : ℕ) (b : Bool) → IsSome (then_some b r) → b ≡ true
inside_if r true s = refl
inside_if r false s = cc

-- every point that a filled ground fills lies in the box
filled_inside : (n : ℕ) (ground : Ground) (events : List Event) (a : Attributes) (i : ℕ) (e : Event) (x y : ℕ)
    → BreaksNone n Uncovered events → raster_before events ≡ Some a → slice_get events i ≡ Some e
    → IsSome (filled_on ground e x y) → is_in_box a x y ≡ true
filled_inside n Kept events a i e x y none box here f = cc
filled_inside n (Filled r) events a i e x y none box here f = of_attributes (raster_of e) refl f
  where
    of_attributes : (o : Option Attributes) → raster_of e ≡ o
        → IsSome (option_and_then (λ a. then_some (is_in_box a x y) r) o) → is_in_box a x y ≡ true
    of_attributes None is s = cc
    of_attributes (Some b) is s =
        let k : Keeps n (take i events) e = keeps_at n events none i e here in
        let first : raster_before (take i events) ≡ None
        = none_from _ (λ some. let no : None ≡ Some b = sym (one_box n (take i events) e k some) ∙ is in cc) in
        let same : b ≡ a = box_there_is i events e a b here first is box in
        rw (← same) (inside_if r _ s)

paint_inside : (n : ℕ) (t : Display) (events : List Event) (a : Attributes) (i : ℕ) (e : Event) (x y : ℕ)
    → BreaksNone n Uncovered events → raster_before events ≡ Some a → slice_get events i ≡ Some e
    → IsSome (paint_at t (take i events) e x y) → is_in_box a x y ≡ true
paint_inside n t events a i e x y none box here p =
    split (touches_on t (take i events) e x y && is_kept_on t (take i events) x y) refl p
  where
    split : (b : Bool) → (touches_on t (take i events) e x y && is_kept_on t (take i events) x y) ≡ b
        → IsSome (cond b (Some (selected_on t (take i events))) (filled_on t.choices.ground e x y))
        → is_in_box a x y ≡ true
    split true both s = data_inside n t events a i e x y none box here
        (and_parts (touches_on t (take i events) e x y) (is_kept_on t (take i events) x y) both).0
    split false touched s = filled_inside n t.choices.ground events a i e x y none box here s

pub if_seen : {A : Type 0} (b : Bool) (o : Option A) → IsSome (if b then o else None) → IsSome o
if_seen true o h = h
if_seen false o h = cc

pub none_painted_outside : (n : ℕ) → NonePaintedOutside n
unfolding IsPainted paints_on
none_painted_outside n t events a x y none box out painted =
    let at : HoldsAtPosition _ events (painted.0) = painted.1 in
    split (nat_le t.choices.origin_x x && nat_le t.choices.origin_y y) refl (if_seen (is_seen_on t events) _ at.holds)
  where
    split : (b : Bool) → (nat_le t.choices.origin_x x && nat_le t.choices.origin_y y) ≡ b
        → IsSome (cond b (paint_at t (take (painted.0) events) (painted.1).item
        (x - t.choices.origin_x) (y - t.choices.origin_y)) None) → ⊥
    split false e s = cc
    split true e s =
        let from : (nat_le t.choices.origin_x x ≡ true) × (nat_le t.choices.origin_y y ≡ true) = and_parts _ _ e in
        let across : t.choices.origin_x ≤ x = leb-true _ _ from.0 in
        let down : t.choices.origin_y ≤ y = leb-true _ _ from.1 in
        let inside : is_in_box a (x - t.choices.origin_x) (y - t.choices.origin_y) ≡ true
        = paint_inside n t events a (painted.0) ((painted.1).item) _ _ none box ((painted.1).here) s in
        let to : (nat_lt (x - t.choices.origin_x) a.width ≡ true) × (nat_lt (y - t.choices.origin_y) a.height ≡ true)
        = and_parts _ _ inside in
        let right : x - t.choices.origin_x < a.width = ltb-true _ _ to.0 in
        let bottom : y - t.choices.origin_y < a.height = ltb-true _ _ to.1 in
        out (record { left = across; top = down; right = omega arith; bottom = omega arith })

-- ---- terminals that clip

paints_same : (touched kept : Bool) (r f : Option ℕ) → (touched ≡ true → kept ≡ true)
    → (if touched && kept then r else f) ≡ (if touched && true then r else f)
paints_same true true r f h = refl
paints_same true false r f h = let no : false ≡ true = h refl in cc
paints_same false kept r f h = refl

paint_same : (n : ℕ) (t : Display) (events : List Event) (i : ℕ) (e : Event) (x y : ℕ)
    → BreaksNone n Uncovered events → slice_get events i ≡ Some e
    → paint_at (clipping true t) (take i events) e x y ≡ paint_at (clipping false t) (take i events) e x y
unfolding touches_on height_of selected_on is_kept_on
paint_same n t events i e x y none here =
    paints_same (touches_on t (take i events) e x y) (is_kept_on (clipping true t) (take i events) x y)
    (Some (selected_on t (take i events))) (filled_on t.choices.ground e x y)
    (data_kept n t (clipping true t) events i e x y none here)

pub clipping_changes_nothing : (n : ℕ) → ClippingChangesNothing n
unfolding is_seen_on paints_on
clipping_changes_nothing n t events i e x y none here =
    ap (λ (o : Option ℕ). if is_seen_on t events
    then if nat_le t.choices.origin_x x && nat_le t.choices.origin_y y then o else None
    else None)
    (paint_same n t events i e (x - t.choices.origin_x) (y - t.choices.origin_y) none here)
