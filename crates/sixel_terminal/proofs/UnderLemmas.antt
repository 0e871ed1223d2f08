-- Raster attributes before all events that give the terminal's own ratio.
use Rattle.std.proofs.Common.{◌≡◌, ◌==◌, ℕ, zero, suc, ◌-◌, ◌*◌, ◌/◌, ◌%◌, ◌<◌, ◌≤◌, Bool, true, false, ◌&&◌, map}
use Rattle.std.proofs.Common.{cond, Option, Some, None, List, [], ◌∷◌, length, get_or, nat_lt, refl, sym, ap, ◌∙◌}
use Rattle.std.proofs.Common.{subst, arith}
use Rattle.std.specs.Prelude.{sum_by, unwrap_or, if◌then◌else◌}
use Rattle.std.specs.Bool.{then_some}
use Rattle.std.specs.List.{list_any}
use Rattle.std.specs.Option.{option_or, option_map, option_map_or}
use Rattle.std.proofs.lemmas.Bool.{eqb-true, or_parts}
use Rattle.std.proofs.lemmas.Bool.Decides.{nat_tests}
use Rattle.std.proofs.lemmas.List.{get_or-map, length-map}
use Rattle.std.proofs.lemmas.List.Sums.{sum_by-cons}
use Rattle.std.proofs.lemmas.Nat.{div_below, mod_below}
use Rattle.sixel_grammar.specs.declared.command.Command.TheVariants.{Raster}
use Rattle.sixel_grammar.specs.declared.command.Event.{Event}
use Rattle.sixel_grammar.specs.declared.command.Event.TheVariants.{Step}
use Rattle.sixel_model.specs.declared.colour.Parts.{Parts}
use Rattle.sixel_model.specs.declared.colour.Parts.TheVariants.{Rgb}
use Rattle.sixel_model.specs.Events.{Attributes, columns_of, is_return, is_square, named_by, raster_of, select_of}
use Rattle.sixel_model.specs.Geometry.{band, column, touches}
use Rattle.sixel_model.specs.Positions.{at_position, earliest, last_at, last_below, latest, since}
use Rattle.sixel_model.specs.Rules.{raster_before}
use Rattle.sixel_model.proofs.PositionLemmas.{option_or_assoc, option_or_none}
use Rattle.sixel_terminal.specs.declared.choices.Ground.{Ground}
use Rattle.sixel_terminal.specs.declared.choices.Ground.TheVariants.{Kept, Filled}
use Rattle.sixel_terminal.specs.declared.pen.Pen.{Pen}
use Rattle.sixel_terminal.specs.declared.pixel.Ink.{Ink}
use Rattle.sixel_terminal.specs.declared.pixel.Ink.TheVariants.{Fixed, Bound}
use Rattle.sixel_terminal.specs.Canvases.{black}
use Rattle.sixel_terminal.specs.Displays.{Display, registers_of}
use Rattle.sixel_terminal.specs.Drawing.{defined_on, filled_on, height_of, is_kept_on, map_on, paints_on, selected_on}
use Rattle.sixel_terminal.specs.Drawing.{touches_on}
use Rattle.sixel_terminal.specs.Drawings.{Drawn, HasDrawn}
use Rattle.sixel_terminal.specs.Standing.{IsPenAfter, StandsAfter, ink_at_point, ink_in_register, inked_by}
use Rattle.sixel_terminal.specs.Steps.{box_covers, ink_over, is_from_origin}
use Rattle.sixel_terminal.proofs.PaintLemmas.{no_columns}
use Rattle.sixel_terminal.proofs.ShownLemmas.{map_last}

-- ---- searches in a list with one more item at the front

latest_front : {X A : Type 0} (f : X → Option A) (x : X) (xs : List X) → f x ≡ None → latest f (x ∷ xs) ≡ latest f xs
unfolding latest
latest_front f x xs none = rw none (option_or_none (latest f xs))

last_below_front : {A : Type 0} (n : ℕ) (f : ℕ → Option A)
    → last_below (suc n) f ≡ option_or (last_below n (λ i. f (suc i))) (f 0)
unfolding last_below
last_below_front zero f = option_or_none (f 0)
last_below_front (suc n) f =
    ap (option_or (f (suc n))) (last_below_front n f)
    ∙ sym (option_or_assoc (f (suc n)) (last_below n (λ i. f (suc i))) (f 0))

last_at_front : {X A : Type 0} (f : List X → X → Option A) (x : X) (xs : List X)
    → last_at f (x ∷ xs) ≡ option_or (last_at (λ before y. f (x ∷ before) y) xs) (f [] x)
unfolding last_at at_position
last_at_front f x xs = last_below_front (length xs) (at_position f (x ∷ xs))

since_none : {X : Type 0} (p : X → Bool) (xs : List X) → list_any p xs ≡ false → since p xs ≡ xs
unfolding since
since_none p [] none = refl
since_none p (x ∷ xs) none =
    let both = or_parts (p x) (list_any p xs) none in rw (both.1, both.0) refl

sum_front : {X : Type 0} (f : X → ℕ) (p : X → Bool) (x : X) (xs : List X) (v : Bool) → list_any p xs ≡ v → f x ≡ 0
    → sum_by f (cond v (since p xs) (x ∷ xs)) ≡ sum_by f (since p xs)
sum_front f p x xs true is none = refl
sum_front f p x xs false is none = rw (since_none p xs is) (omega (arith, sum_by-cons f x xs, none))

-- ---- what the raster attributes leave as it is

-- raster attributes of the terminal's own ratio
abbrev pub own_raster : Display → ℕ → ℕ → Event
own_raster t width height = Step (Raster t.choices.tall 1 width height)

column_front : (z : ℕ) (t : Display) (w h : ℕ) (before : List Event)
    → column z (own_raster t w h ∷ before) ≡ column z before
unfolding column since
column_front z t w h before =
    sum_front (columns_of z) is_return (own_raster t w h) before (list_any is_return before) refl refl

band_front : (t : Display) (w h : ℕ) (before : List Event) → band (own_raster t w h ∷ before) ≡ band before
unfolding band
band_front t w h before = omega arith

own_height : (tall : ℕ) (v : Bool) → (tall == 1) ≡ v → cond (v && true) 1 tall ≡ tall
own_height tall true is = sym (eqb-true tall 1 is)
own_height tall false is = refl

height_before : (tall : ℕ) (a : Attributes) (o : Option Attributes) → cond (is_square a) 1 tall ≡ tall
    → option_map_or (λ (a : Attributes). cond (is_square a) 1 tall) (option_or o (Some a)) tall
    ≡ option_map_or (λ (a : Attributes). cond (is_square a) 1 tall) o tall
height_before tall a None own = own
height_before tall a (Some b) own = refl

height_front : (t : Display) (w h : ℕ) (before : List Event)
    → height_of t (own_raster t w h ∷ before) ≡ height_of t before
unfolding height_of latest
height_front t w h before =
    height_before t.choices.tall (record { pan = t.choices.tall; pad = 1; width = w; height = h })
    (latest raster_of before) (own_height t.choices.tall (t.choices.tall == 1) refl)

selected_front : (t : Display) (w h : ℕ) (before : List Event)
    → selected_on t (own_raster t w h ∷ before) ≡ selected_on t before
unfolding selected_on
selected_front t w h before =
    ap (λ o. option_map_or (λ r. r % registers_of t) o t.choices.selected)
    (latest_front _ (own_raster t w h) before (names_none t.choices.selects))
  where
    names_none : (selects : Bool) → (if selects then named_by else select_of) (own_raster t w h) ≡ None
    names_none true = refl
    names_none false = refl

map_front : (t : Display) (w h : ℕ) (before : List Event) (r : ℕ)
    → map_on t (own_raster t w h ∷ before) r ≡ map_on t before r
unfolding map_on
map_front t w h before r =
    ap (λ o. unwrap_or o (get_or t.colours r (Rgb 0 0 0)))
    (latest_front (defined_on t r) (own_raster t w h) before refl)

touches_front : (t : Display) (w h : ℕ) (before : List Event) (e : Event) (x y : ℕ)
    → touches_on t (own_raster t w h ∷ before) e x y ≡ touches_on t before e x y
unfolding touches_on touches
touches_front t w h before e x y =
    rw (column_front t.choices.zero t w h before, band_front t w h before, height_front t w h before) refl

kept_on : (t : Display) (before : List Event) (x y : ℕ) → t.choices.clips ≡ false → is_kept_on t before x y ≡ true
unfolding is_kept_on
kept_on t before x y unclipped = rw unclipped refl

paints_front : (t : Display) (w h : ℕ) (before : List Event) (e : Event) (x y : ℕ) → t.choices.clips ≡ false
    → paints_on t (own_raster t w h ∷ before) e x y ≡ paints_on t before e x y
unfolding paints_on
paints_front t w h before e x y unclipped =
    let px = x - t.choices.origin_x in
    let py = y - t.choices.origin_y in
    rw (
      touches_front t w h before e px py,
      kept_on t (own_raster t w h ∷ before) px py unclipped,
      kept_on t before px py unclipped,
      selected_front t w h before,
    ) refl

-- ---- the inks of the pixels

touches_none : (t : Display) (w h : ℕ) (before : List Event) (x y : ℕ)
    → touches_on t before (own_raster t w h) x y ≡ false
unfolding touches_on touches
touches_none t w h before x y =
    no_columns (column t.choices.zero before) (band before) (height_of t before) 0 x y

-- the register of a ground inside a box
abbrev register_in : Ground → Bool → Option ℕ
register_in Kept inside = None
register_in (Filled register) inside = then_some inside register

filled_box : (g : Ground) (pan pad w h x y : ℕ)
    → filled_on g (Step (Raster pan pad w h)) x y ≡ register_in g (nat_lt x w && nat_lt y h)
filled_box Kept pan pad w h x y = refl
filled_box (Filled register) pan pad w h x y = refl

-- the register in which the raster attributes paint a pixel
painted_box : (t : Display) (w h x y : ℕ)
    → paints_on t [] (own_raster t w h) x y
    ≡ (if is_from_origin t x y
    then register_in t.choices.ground (nat_lt (x - t.choices.origin_x) w && nat_lt (y - t.choices.origin_y) h)
    else None)
unfolding paints_on
painted_box t w h x y =
    let px = x - t.choices.origin_x in
    let py = y - t.choices.origin_y in
    rw (touches_none t w h [] px py, filled_box t.choices.ground t.choices.tall 1 w h px py) refl

-- a pixel that events may have painted, over a box at the front
ink_by_box : (from inside : Bool) (g : Ground) (o : Option ℕ) (stood : Parts)
    → unwrap_or (option_or (option_map (λ r. Bound r) o)
    (option_map (λ r. Bound r) (if from then register_in g inside else None))) (Fixed stood)
    ≡ cond (from && inside) (ink_over g (unwrap_or (option_map (λ r. Bound r) o) (Fixed stood)))
    (unwrap_or (option_map (λ r. Bound r) o) (Fixed stood))
ink_by_box true true Kept None stood = refl
ink_by_box true true (Filled register) None stood = refl
ink_by_box true true Kept (Some r) stood = refl
ink_by_box true true (Filled register) (Some r) stood = refl
ink_by_box true false Kept None stood = refl
ink_by_box true false (Filled register) None stood = refl
ink_by_box true false g (Some r) stood = refl
ink_by_box false inside g None stood = refl
ink_by_box false inside g (Some r) stood = refl

bound_ink : (t : Display) (before : List Event) (o : Option ℕ) → t.choices.binds_at_showing ≡ true
    → option_map (ink_in_register t before) o ≡ option_map (λ r. Bound r) o
bound_ink t before None binds = refl
bound_ink t before (Some r) binds = rw binds refl

-- the inks of the last paintings are those of their registers
last_bound : (t : Display) (before : List Event) (x y : ℕ) → t.choices.binds_at_showing ≡ true
    → last_at (inked_by t x y) before ≡ option_map (λ r. Bound r) (last_at (λ b e. paints_on t b e x y) before)
last_bound t before x y binds =
    sym (map_last (λ r. Bound r) (λ b e. paints_on t b e x y) (inked_by t x y) before
    (λ b e. sym (bound_ink t b (paints_on t b e x y) binds)))

last_front : (t : Display) (w h : ℕ) (before : List Event) (x y : ℕ) → t.choices.binds_at_showing ≡ true
    → t.choices.clips ≡ false
    → last_at (λ b e. inked_by t x y (own_raster t w h ∷ b) e) before
    ≡ option_map (λ r. Bound r) (last_at (λ b e. paints_on t b e x y) before)
last_front t w h before x y binds unclipped =
    sym (map_last (λ r. Bound r) (λ b e. paints_on t b e x y) (λ b e. inked_by t x y (own_raster t w h ∷ b) e) before
    (λ b e.
    sym (bound_ink t (own_raster t w h ∷ b) (paints_on t (own_raster t w h ∷ b) e x y) binds
    ∙ ap (option_map (λ r. Bound r)) (paints_front t w h b e x y unclipped))))

ink_front : (t : Display) (w h : ℕ) (before : List Event) (x y : ℕ) → t.choices.binds_at_showing ≡ true
    → t.choices.clips ≡ false
    → ink_at_point t (own_raster t w h ∷ before) x y
    ≡ cond (box_covers t w h x y) (ink_over t.choices.ground (ink_at_point t before x y)) (ink_at_point t before x y)
unfolding ink_at_point
ink_front t w h before x y binds unclipped =
    let painted : inked_by t x y [] (own_raster t w h) ≡ option_map (λ r. Bound r) (if is_from_origin t x y
    then register_in t.choices.ground (nat_lt (x - t.choices.origin_x) w && nat_lt (y - t.choices.origin_y) h)
    else None) =
    bound_ink t [] (paints_on t [] (own_raster t w h) x y) binds
    ∙ ap (option_map (λ r. Bound r)) (painted_box t w h x y) in
    rw (
      last_at_front (inked_by t x y) (own_raster t w h) before,
      last_front t w h before x y binds unclipped,
      painted,
      last_bound t before x y binds,
    )
    (ink_by_box (is_from_origin t x y) (nat_lt (x - t.choices.origin_x) w && nat_lt (y - t.choices.origin_y) h)
    t.choices.ground (last_at (λ b e. paints_on t b e x y) before) _)

-- ---- the state

pen_front : (t : Display) (before : List Event) (p : Pen) (w h : ℕ) → IsPenAfter t before p
    → IsPenAfter t (own_raster t w h ∷ before) (record p { declared = Some (record { width = w; height = h }) })
unfolding raster_before earliest
pen_front t before p w h s = record {
  column_is = rw (column_front t.choices.zero t w h before) s.column_is;
  band_is = rw (band_front t w h before) s.band_is;
  height_is = rw (height_front t w h before) s.height_is;
  declared_is = refl;
  selected_is = rw (selected_front t w h before) s.selected_is;
  selected_below = s.selected_below;
}

-- the state after raster attributes and the events, from that after the events
pub stands_front : (t : Display) (before : List Event) (p q : Pen) (colours : List Parts) (inks inks' : List Ink)
    (w h : ℕ) → t.choices.binds_at_showing ≡ true → t.choices.clips ≡ false
    → StandsAfter t before p colours inks
    → q ≡ record p { declared = Some (record { width = w; height = h }) }
    → length inks' ≡ length inks
    → ((i : ℕ) → i < length inks
    → get_or inks' i black
    ≡ cond (box_covers t w h (i % t.choices.screen_width) (i / t.choices.screen_width))
    (ink_over t.choices.ground (get_or inks i black)) (get_or inks i black))
    → StandsAfter t (own_raster t w h ∷ before) q colours inks'
stands_front t before p q colours inks inks' w h binds unclipped s pen long painted = record {
  pen = subst (λ (q : Pen). IsPenAfter t (own_raster t w h ∷ before) q) (sym pen) (pen_front t before p w h s.pen);
  registers = s.registers;
  colours_are = λ r lt. s.colours_are r lt ∙ sym (map_front t w h before r);
  pixels = long ∙ s.pixels;
  inks_are = λ i lt.
      let x = i % t.choices.screen_width in
      let y = i / t.choices.screen_width in
      painted i (omega (arith, lt, s.pixels))
      ∙ ap (λ ink. cond (box_covers t w h x y) (ink_over t.choices.ground ink) ink) (s.inks_are i lt)
      ∙ sym (ink_front t w h before x y binds unclipped);
}

-- ---- a box that covers the screen

some_factor : (i w h : ℕ) → i < w * h → 0 < w
some_factor i zero h lt = absurd (omega (arith, lt))
some_factor i (suc w) h lt = omega arith

covers_all : (t : Display) (w h x y : ℕ) → t.choices.origin_x ≡ 0 → t.choices.origin_y ≡ 0
    → t.choices.screen_width ≤ w → t.choices.screen_height ≤ h → x < t.choices.screen_width
    → y < t.choices.screen_height → box_covers t w h x y ≡ true
covers_all t w h x y left top across down p q = rw (left, top) (grind (arith, nat_tests, across, down, p, q))

covered_front : (t : Display) (before : List Event) (p : Pen) (colours : List Parts) (inks : List Ink) (w h : ℕ)
    → t.choices.binds_at_showing ≡ true → t.choices.clips ≡ false → t.choices.origin_x ≡ 0 → t.choices.origin_y ≡ 0
    → t.choices.screen_width ≤ w → t.choices.screen_height ≤ h → StandsAfter t before p colours inks
    → StandsAfter t (own_raster t w h ∷ before) (record p { declared = Some (record { width = w; height = h }) })
    colours (map (ink_over t.choices.ground) inks)
covered_front t before p colours inks w h binds unclipped left top across down s =
    stands_front t before p _ colours inks (map (ink_over t.choices.ground) inks) w h binds unclipped s refl
    (length-map inks (ink_over t.choices.ground))
    (λ i lt.
    let size = s.pixels in
    let column : i % t.choices.screen_width < t.choices.screen_width =
    mod_below i t.choices.screen_width (some_factor i t.choices.screen_width t.choices.screen_height
    (omega (arith, lt, size))) in
    let row : i / t.choices.screen_width < t.choices.screen_height =
    div_below i t.choices.screen_width t.choices.screen_height (some_factor i t.choices.screen_width
    t.choices.screen_height (omega (arith, lt, size))) (omega (arith, lt, size)) in
    get_or-map (ink_over t.choices.ground) inks i black black lt
    ∙ ap (λ v. cond v (ink_over t.choices.ground (get_or inks i black)) (get_or inks i black))
    (sym (covers_all t w h (i % t.choices.screen_width) (i / t.choices.screen_width) left top across down column row)))

-- the state after raster attributes whose box covers the screen, and the events
pub stands_covered : (t : Display) (g : Ground) (before : List Event) (p : Pen) (colours : List Parts)
    (inks : List Ink) (w h : ℕ) → g ≡ t.choices.ground → t.choices.binds_at_showing ≡ true → t.choices.clips ≡ false
    → t.choices.origin_x ≡ 0 → t.choices.origin_y ≡ 0 → t.choices.screen_width ≤ w → t.choices.screen_height ≤ h
    → StandsAfter t before p colours inks
    → StandsAfter t (own_raster t w h ∷ before) (record p { declared = Some (record { width = w; height = h }) })
    colours (map (ink_over g) inks)
stands_covered t g before p colours inks w h is binds unclipped left top across down s =
    subst (λ (g : Ground). StandsAfter t (own_raster t w h ∷ before)
    (record p { declared = Some (record { width = w; height = h }) }) colours (map (ink_over g) inks)) (sym is)
    (covered_front t before p colours inks w h binds unclipped left top across down s)

pub drawn_front : (d : Drawn) (before : List Event) (p : Pen) (inks : List Ink) (w h : ℕ) → HasDrawn d before
    → StandsAfter d.terminal (own_raster d.terminal w h ∷ before) p d.colours inks
    → HasDrawn (record d { pen = p; inks = inks }) (own_raster d.terminal w h ∷ before)
drawn_front d before p inks w h drawn stands = record { stands = stands; controls = drawn.controls }
