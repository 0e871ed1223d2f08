-- What plain terminals paint: those on which a repeat of 0 has no column and a bit one row, which don't clip, and on
-- which the picture is at the top left.
use Rattle.std.proofs.Common.{◌≡◌, ℕ, ◌+◌, ◌||◌, Bool, true, false, Option, Some, None, List, []}
use Rattle.std.proofs.Common.{refl, sym, ap, ap₂, ◌∙◌, arith}
use Rattle.std.specs.Prelude.{not, if◌then◌else◌}
use Rattle.std.specs.List.{list_any}
use Rattle.std.specs.Option.{option_map, option_map_or, option_or}
use Rattle.std.proofs.Math.Bool.{and-true}
use Rattle.sixel_grammar.specs.declared.command.Event.{Event}
use Rattle.sixel_model.specs.declared.colour.Parts.{Parts}
use Rattle.sixel_model.specs.Events.{Attributes, is_eight_bit, is_square, raster_of}
use Rattle.sixel_model.specs.Geometry.{falls, touches}
use Rattle.sixel_model.specs.Positions.{last_at, last_below, latest}
use Rattle.sixel_model.proofs.PositionLemmas.{last_at_push}
use Rattle.sixel_terminal.specs.Displays.{Display}
use Rattle.sixel_terminal.specs.Drawing.{filled_on, height_of, inked_on, is_kept_on, is_seen_on, map_on, paint_at}
use Rattle.sixel_terminal.specs.Drawing.{selected_on, touches_on}
use Rattle.sixel_terminal.proofs.ClipLemmas.{at_origin}
use Rattle.sixel_emulator_rules_laws.proofs.InkLemmas.{last_at_same, one_row}
use Rattle.sixel_emulator_rules_laws.proofs.StaleLemmas.{by_pushes}

pub record IsBare (t : Display) : Type 0 where
  pub zero : t.choices.zero ≡ 0
  pub tall : t.choices.tall ≡ 1
  pub whole : not t.choices.clips ≡ true
  pub eight_bit : t.choices.eight_bit ≡ true
  pub left : t.choices.origin_x ≡ 0
  pub top : t.choices.origin_y ≡ 0

-- ---- what an event paints

rows_are : (t : Display) (before : List Event) → IsBare t → height_of t before ≡ 1
unfolding height_of
rows_are t before b =
    ap (λ (n : ℕ). option_map_or (λ (a : Attributes). if is_square a then 1 else n) (latest raster_of before) n) b.tall
    ∙ one_row 1 (latest raster_of before)

touches_is : (t : Display) (before : List Event) (e : Event) (x y : ℕ) → IsBare t
    → touches_on t before e x y ≡ falls before e x y
unfolding touches_on falls
touches_is t before e x y b = ap₂ (λ (z rows : ℕ). touches z rows before e x y) b.zero (rows_are t before b)

kept_is : (t : Display) (before : List Event) (x y : ℕ) → IsBare t → is_kept_on t before x y ≡ true
unfolding is_kept_on
kept_is t before x y b = rw b.whole refl

-- the register in which the event paints the point
abbrev pub paint_of : Display → ℕ → ℕ → List Event → Event → Option ℕ
paint_of t x y before e =
    if falls before e x y then Some (selected_on t before) else filled_on t.choices.ground e x y

paint_is : (t : Display) (before : List Event) (e : Event) (x y : ℕ) → IsBare t
    → paint_at t before e x y ≡ paint_of t x y before e
paint_is t before e x y b =
    rw (touches_is t before e x y b, kept_is t before x y b, and-true (falls before e x y)) refl

-- the colour in which the event paints the point, if it does
abbrev pub ink_of : Display → List Event → ℕ → ℕ → List Event → Event → Option Parts
ink_of t events x y before e =
    option_map (map_on t (if t.choices.binds_at_showing then events else before)) (paint_of t x y before e)

seen_if : {A : Type 0} (b c : Bool) (o : Option A) → b ≡ true → (if b || c then o else None) ≡ o
seen_if true c o h = refl
seen_if false c o h = cc

inked_is : (t : Display) (events before : List Event) (e : Event) (x y : ℕ) → IsBare t
    → inked_on t events (t.choices.origin_x + x) (t.choices.origin_y + y) before e ≡ ink_of t events x y before e
unfolding is_seen_on
inked_is t events before e x y b =
    ap (option_map (map_on t (if t.choices.binds_at_showing then events else before)))
    (seen_if t.choices.eight_bit (not (list_any is_eight_bit events)) _ b.eight_bit
    ∙ (at_origin t before e x y ∙ paint_is t before e x y b))

pub from_left : (t : Display) (x : ℕ) → IsBare t → t.choices.origin_x + x ≡ x
from_left t x b = let zero : t.choices.origin_x ≡ 0 = b.left in omega (arith, zero)

pub from_top : (t : Display) (y : ℕ) → IsBare t → t.choices.origin_y + y ≡ y
from_top t y b = let zero : t.choices.origin_y ≡ 0 = b.top in omega (arith, zero)

pub last_inked : (t : Display) (events : List Event) (x y : ℕ) → IsBare t
    → last_at (inked_on t events x y) events ≡ last_at (ink_of t events x y) events
last_inked t events x y b =
    ap₂ (λ (u v : ℕ). last_at (inked_on t events u v) events) (sym (from_left t x b)) (sym (from_top t y b))
    ∙ last_at_same _ _ events (λ before e. inked_is t events before e x y b)

-- ---- the last value

map_or : {A B : Type 0} (f : A → B) (o p : Option A)
    → option_or (option_map f o) (option_map f p) ≡ option_map f (option_or o p)
map_or f None p = refl
map_or f (Some a) p = refl

pub last_map : {X A B : Type 0} (f : A → B) (g : List X → X → Option A) (xs : List X)
    → last_at (λ before x. option_map f (g before x)) xs ≡ option_map f (last_at g xs)
unfolding last_at last_below
last_map f g xs =
    by_pushes (λ zs. last_at (λ before x. option_map f (g before x)) zs ≡ option_map f (last_at g zs)) [] xs
    (λ zs z ih.
    last_at_push (λ before x. option_map f (g before x)) zs z
    ∙ (ap (option_or (option_map f (g zs z))) ih
    ∙ (map_or f (g zs z) (last_at g zs) ∙ ap (option_map f) (sym (last_at_push g zs z))))) refl
