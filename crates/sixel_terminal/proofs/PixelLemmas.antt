-- A pen paints the pixels that the definitions say.
use Rattle.std.proofs.Common.{◌≡◌, ◌==◌, ℕ, ◌+◌, ◌-◌, ◌*◌, ◌<◌, ◌≤◌, Bool, true, false, ◌&&◌, ◌||◌, cond, min, not}
use Rattle.std.proofs.Common.{Option, Some, None, List, nat_le, nat_lt, refl, ap₂, arith}
use Rattle.std.specs.Prelude.{if◌then◌else◌}
use Rattle.std.specs.Int.{bit_at}
use Rattle.std.specs.Option.{option_map, option_map_or}
use Rattle.std.proofs.lemmas.Bool.{and_parts, cases_lt, leb-true}
use Rattle.std.proofs.lemmas.Bool.Decides.{nat_tests}
use Rattle.std.proofs.Common.{inl, inr}
use Rattle.sixel_grammar.specs.declared.command.Event.{Event}
use Rattle.sixel_model.specs.Events.{Attributes, bits_of, columns_of, is_in_box, is_square, raster_of}
use Rattle.sixel_model.specs.Geometry.{band, column, covers, touches}
use Rattle.sixel_model.specs.Positions.{latest}
use Rattle.sixel_model.specs.Rules.{raster_before}
use Rattle.sixel_model.proofs.PositionLemmas.{any_below_same}
use Rattle.sixel_terminal.specs.declared.pen.Pen.{Pen}
use Rattle.sixel_terminal.specs.declared.pen.Sides.{Sides}
use Rattle.sixel_terminal.specs.Displays.{Display}
use Rattle.sixel_terminal.specs.Drawing.{height_of, is_kept_on, paint_at, paints_on, touches_on}
use Rattle.sixel_terminal.specs.Standing.{IsPenAfter}
use Rattle.sixel_terminal.specs.Steps.{is_before_edges, is_from_origin, most, painted_by, sides_of}

-- a stopped column is right of every pixel of a screen
stopped_across : (l c x : ℕ) → x < most
    → (nat_le (min l most) x && nat_lt x (min l most + c)) ≡ (nat_le l x && nat_lt x (l + c))
stopped_across l c x lt = grind (arith, nat_tests)

-- two spans of rows that both begin below a pixel don't have it
both_high : (p q h y : ℕ) → y < p → y < q
    → (nat_le p y && nat_lt y (p + h)) ≡ (nat_le q y && nat_lt y (q + h))
both_high p q h y a b = grind (arith, nat_tests)

at_least : (n h : ℕ) → 1 ≤ h → n ≤ n * h
at_least n h some = grind (arith)

low_rows : (b k h y : ℕ) → b ≤ most
    → (nat_le ((6 * min b most + k) * h) y && nat_lt y ((6 * min b most + k) * h + h))
    ≡ (nat_le ((6 * b + k) * h) y && nat_lt y ((6 * b + k) * h + h))
low_rows b k h y low = let same : min b most ≡ b = omega (arith, low) in rw same refl

high_rows : (b k h y : ℕ) → most ≤ b → 1 ≤ h → y < most
    → (nat_le ((6 * min b most + k) * h) y && nat_lt y ((6 * min b most + k) * h + h))
    ≡ (nat_le ((6 * b + k) * h) y && nat_lt y ((6 * b + k) * h + h))
high_rows b k h y high some lt =
    let stopped = at_least (6 * min b most + k) h some in
    let whole = at_least (6 * b + k) h some in
    both_high ((6 * min b most + k) * h) ((6 * b + k) * h) h y (omega (arith, stopped, high, lt))
    (omega (arith, whole, high, lt))

-- the rows of a stopped band have the same pixels of a screen
stopped_rows : (b k h y : ℕ) → 1 ≤ h → y < most
    → (nat_le ((6 * min b most + k) * h) y && nat_lt y ((6 * min b most + k) * h + h))
    ≡ (nat_le ((6 * b + k) * h) y && nat_lt y ((6 * b + k) * h + h))
stopped_rows b k h y some lt = elim (cases_lt b most) [
  | inl low ↦ low_rows b k h y (omega (arith, low))
  | inr high ↦ high_rows b k h y high some lt
]

and_three : (b l t l' t' : Bool) → (l && t) ≡ (l' && t') → (b && l && t) ≡ (b && l' && t')
and_three true l t l' t' h = h
and_three false l t l' t' h = refl

-- a pen that has stopped paints the same pixels of a screen
stopped_covers : (l c b h bits x y : ℕ) → 1 ≤ h → x < most → y < most
    → covers (min l most) c (min b most) h bits x y ≡ covers l c b h bits x y
unfolding covers
stopped_covers l c b h bits x y some p q =
    ap₂ (λ v w. v && w) (stopped_across l c x p)
    (any_below_same 6 _ _ (λ k lt. and_three (bit_at bits k == 1) _ _ _ _ (stopped_rows b k h y some q)))

square_height : (tall : ℕ) (o : Option Attributes) → 1 ≤ tall
    → 1 ≤ option_map_or (λ (a : Attributes). if is_square a then 1 else tall) o tall
square_height tall None h = h
square_height tall (Some a) h = one_or (is_square a) tall h
  where
    one_or : (v : Bool) (n : ℕ) → 1 ≤ n → 1 ≤ cond v 1 n
    one_or true n h = omega arith
    one_or false n h = h

height_some : (t : Display) (before : List Event) → 1 ≤ t.choices.tall → 1 ≤ height_of t before
unfolding height_of
height_some t before h = square_height t.choices.tall (latest raster_of before) h

pen_covers : (t : Display) (before : List Event) (p : Pen) (e : Event) (x y : ℕ) → IsPenAfter t before p
    → 1 ≤ t.choices.tall → x < most → y < most
    → covers p.column (columns_of t.choices.zero e) p.band p.height (bits_of e) x y ≡ touches_on t before e x y
unfolding touches_on touches
pen_covers t before p e x y s tall lx ly =
    rw (s.column_is, s.band_is, s.height_is)
    (stopped_covers (column t.choices.zero before) (columns_of t.choices.zero e) (band before) (height_of t before)
    (bits_of e) x y (height_some t before tall) lx ly)

both_below : (x w y h : ℕ) → x < w → y < h → (nat_lt x w && nat_lt y h) ≡ true
both_below x w y h p q = grind (arith, nat_tests)

-- inside a screen, the end of a box that begins at the origin is the box's own end
below_end : (o side w x : ℕ) → x < w → o ≤ x → nat_lt x (min w (o + side)) ≡ nat_lt (x - o) side
below_end o side w x p q = grind (arith, nat_tests)

-- a pixel of the screen is before the edges exactly if the terminal doesn't clip, or it is in the box, if there is one
edges_keep : (clips : Bool) (ox oy w h x y : ℕ) (o : Option Attributes) → x < w → y < h → ox ≤ x → oy ≤ y
    → (nat_lt x (if clips then option_map_or (λ (s : Sides). min w (ox + s.width)) (option_map sides_of o) w else w)
    && nat_lt y (if clips then option_map_or (λ (s : Sides). min h (oy + s.height)) (option_map sides_of o) h else h))
    ≡ (not clips || option_map_or (λ a. is_in_box a (x - ox) (y - oy)) o true)
edges_keep false ox oy w h x y o p q f g = both_below x w y h p q
edges_keep true ox oy w h x y None p q f g = both_below x w y h p q
edges_keep true ox oy w h x y (Some a) p q f g =
    ap₂ (λ u v. u && v) (below_end ox a.width w x p f) (below_end oy a.height h y q g)

-- a pixel of the screen from the origin on is before the edges exactly if data commands may paint it
pen_keeps : (t : Display) (before : List Event) (p : Pen) (x y : ℕ) → IsPenAfter t before p
    → x < t.choices.screen_width → y < t.choices.screen_height → is_from_origin t x y ≡ true
    → is_before_edges t p.declared x y ≡ is_kept_on t before (x - t.choices.origin_x) (y - t.choices.origin_y)
unfolding is_kept_on
pen_keeps t before p x y s wx wy from =
    let at = and_parts (nat_le t.choices.origin_x x) (nat_le t.choices.origin_y y) from in
    rw s.declared_is
    (edges_keep t.choices.clips t.choices.origin_x t.choices.origin_y t.choices.screen_width t.choices.screen_height x y
    (raster_before before) wx wy (leb-true _ _ at.0) (leb-true _ _ at.1))

-- the pen paints what the definitions say
pub pen_paints : (t : Display) (before : List Event) (p : Pen) (e : Event) (x y : ℕ) → IsPenAfter t before p
    → 1 ≤ t.choices.tall → x < t.choices.screen_width → y < t.choices.screen_height → x < most → y < most
    → painted_by t p e x y ≡ paints_on t before e x y
unfolding paints_on
pen_paints t before p e x y s tall wx wy lx ly =
    split (is_from_origin t x y) refl
  where
    split : (from : Bool) → is_from_origin t x y ≡ from → painted_by t p e x y
        ≡ (if is_from_origin t x y then paint_at t before e (x - t.choices.origin_x) (y - t.choices.origin_y) else None)
    split false q = rw q refl
    split true q =
        let px = x - t.choices.origin_x in
        let py = y - t.choices.origin_y in
        rw (
          pen_covers t before p e px py s tall (omega (arith, lx)) (omega (arith, ly)),
          pen_keeps t before p x y s wx wy q,
          s.selected_is,
        ) refl
