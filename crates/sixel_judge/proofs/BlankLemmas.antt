-- The first blank pixel of a grid that the events leave, and the registers of a grid without a blank pixel.
use Rattle.std.proofs.Common.{◌≡◌, Bool, not, ◌==◌, ℕ, zero, suc, ◌+◌, ◌*◌, ◌/◌, ◌%◌, ◌<◌, ◌≤◌, true, false, ◌&&◌, cond}
use Rattle.std.proofs.Common.{Option, Some, None, List, length, get_or, map, nat_le, nat_lt, inl, inr, refl, sym, ap}
use Rattle.std.proofs.Common.{ap₂, ◌∙◌, arith, subst}
use Rattle.std.specs.Prelude.{IsTrue, is_none, is_some, unwrap_or}
use Rattle.std.specs.List.{position_from, position_or_len}
use Rattle.std.specs.Option.{option_flatten, option_map}
use Rattle.std.proofs.lemmas.Bool.{and_from, and_parts, both_ways, eqb-true, leb-true, lt-ltb, ltb-true, not-false}
use Rattle.std.proofs.lemmas.Bool.{not-true, or_cases}
use Rattle.std.proofs.lemmas.List.{get_or-map, length-map}
use Rattle.std.proofs.lemmas.Nat.{div-add-mod', mod_below, mul-add-lt, row_fits}
use Rattle.std.proofs.lemmas.Iterator.Adapters.{position_from-zero}
use Rattle.std.proofs.lemmas.List.Sums.{fails_before_first, passes_at_first}
use Rattle.std.proofs.lemmas.Option.{slice_get-get_or}
use Rattle.sixel_grammar.specs.declared.command.Event.{Event}
use Rattle.sixel_judge.proofs.OptionLemmas.{none_is}
use Rattle.sixel_model.specs.Events.{Attributes, is_in_box}
use Rattle.sixel_model.specs.Pictures.{is_side, picture_of_parts, most_side}
use Rattle.sixel_model.specs.Rules.{IsFirstPoint, StaysBlank, is_before, is_covered, palette_left, picture_left}
use Rattle.sixel_model.specs.Rules.{register_at}
use Rattle.sixel_model.specs.Grids.{Grid, cell, first_blank, row_by_row}
use Rattle.sixel_plane.proofs.PaintedLemmas.{none_passes, row_below}
use Rattle.sixel_model.proofs.GridLemmas.{rows_from_index}
use Rattle.sixel_judge.specs.Judging.{IsDrawn, box_of}
use Rattle.sixel_judge.specs.Outside.{IsFirstIfAny}
use Rattle.sixel_judge.specs.Verdicts.{capped}

-- ---- indices

-- the first item that passes is at the index that is found
first_place : {A : Type 0} (p : A → Bool) (xs : List A) (d : A) (i : ℕ) → position_from p 0 xs ≡ Some i
    → (i < length xs) × (p (get_or xs i d) ≡ true) × ((k : ℕ) → k < i → p (get_or xs k d) ≡ false)
first_place p xs d i h = split (nat_lt (position_or_len p xs) (length xs)) refl (position_from-zero p xs ∙ h)
  where
    split : (b : Bool) → nat_lt (position_or_len p xs) (length xs) ≡ b
        → cond b (Some (position_or_len p xs)) None ≡ Some i
        → (i < length xs) × (p (get_or xs i d) ≡ true) × ((k : ℕ) → k < i → p (get_or xs k d) ≡ false)
    split true e h =
        let same : position_or_len p xs ≡ i = cc in
        let lt : position_or_len p xs < length xs = ltb-true _ _ e in
        subst
        (λ (n : ℕ). (n < length xs) × (p (get_or xs n d) ≡ true) × ((k : ℕ) → k < n → p (get_or xs k d) ≡ false)) same
        (lt, passes_at_first p xs d lt, λ k low. fails_before_first p xs k d low)
    split false e h = cc

-- the column and the row of an index
pub some_width : (w h i : ℕ) → i < w * h → 0 < w
some_width zero h i lt = absurd (omega arith)
some_width (suc w) h i lt = omega arith

placed : (w h i : ℕ) → i < w * h → (i % w < w) × (i / w < h) × (i / w * w + i % w ≡ i)
placed w h i lt =
    let some : 0 < w = some_width w h i lt in
    (mod_below i w some, row_below i w h some lt, div-add-mod' i w)

-- ---- the first blank pixel of the box

-- the index of a pixel of the box is below the number of pixels
in_box_place : (a : Attributes) (x y : ℕ) → is_in_box a x y ≡ true
    → (x < a.width) × (y < a.height) × (y * a.width + x < a.width * a.height)
in_box_place a x y h =
    let parts = and_parts (nat_lt x a.width) (nat_lt y a.height) h in
    let in_x : x < a.width = ltb-true x a.width parts.0 in
    let in_y : y < a.height = ltb-true y a.height parts.1 in
    (in_x, in_y, mul-add-lt y a.width x a.height in_y in_x)

-- the pixel at an index of the grid
pub cell_at : (s : Grid) (x y : ℕ) → y * s.width + x < length s.cells
    → cell s x y ≡ get_or s.cells (y * s.width + x) None
unfolding cell
cell_at s x y lt = ap option_flatten (slice_get-get_or s.cells (y * s.width + x) None lt)

-- the sides of the grid are in range, and its pixels that aren't blank are those that an event covers
pub record Covers (s : Grid) (before : List Event) : Type 0 where
  pub width : IsTrue (is_side s.width)
  pub height : IsTrue (is_side s.height)
  pub pixels : length s.cells ≡ s.width * s.height
  pub covered : (x y : ℕ) → x < s.width → y < s.height → is_some (cell s x y) ≡ is_covered before x y

-- the pixel at this index has a register exactly if an event paints it
painted_there : (s : Grid) (before : List Event) (x y : ℕ) → Covers s before → x < s.width → y < s.height
    → is_none (get_or s.cells (y * s.width + x) None) ≡ not (is_covered before x y)
painted_there s before x y d p q =
    let place : y * s.width + x < s.width * s.height = mul-add-lt y s.width x s.height q p in
    ap is_none (sym (cell_at s x y (omega (arith, place, d.pixels)))) ∙ none_is (cell s x y)
    ∙ ap not (d.covered x y p q)

not_blank : {s : Grid} {before : List Event} (x y : ℕ) → Covers s before → x < s.width → y < s.height
    → is_none (get_or s.cells (y * s.width + x) None) ≡ false → is_covered before x y ≡ false → ⊥
not_blank {s} {before} x y d p q has bare =
    both_ways (is_covered before x y) bare (not-false _ (sym (painted_there s before x y d p q) ∙ has))

-- a pixel that comes before another in row order has a lower index
place_before : (w u v x y : ℕ) → u < w → is_before u v x y ≡ true → v * w + u < y * w + x
place_before w u v x y in_row h = elim (or_cases (nat_lt v y) ((v == y) && nat_lt u x) h) [
  | inl above ↦
      let higher : v < y = ltb-true v y above in
      let row : v * w + w ≤ y * w = row_fits v w y w higher (omega arith) in
      omega arith
  | inr beside ↦
      let parts = and_parts (v == y) (nat_lt u x) beside in
      let same : v ≡ y = eqb-true v y parts.0 in
      let left : u < x = ltb-true u x parts.1 in
      let row : v * w ≡ y * w = ap (λ (n : ℕ). n * w) same in
      omega arith
]

-- if no index is blank, each pixel of the box is painted
no_blank_place : (s : Grid) (before : List Event) → Covers s before → position_from is_none 0 s.cells ≡ None
    → (x y : ℕ) → StaysBlank before (box_of s) x y → ⊥
no_blank_place s before d none x y blank =
    let at = in_box_place (box_of s) x y blank.inside in
    not_blank x y d at.0 at.1
    (none_passes is_none 0 s.cells None none (y * s.width + x) (omega (arith, at.2, d.pixels))) blank.blank

-- the first blank index is that of the first point of the box that no event paints
blank_place : {s : Grid} {before : List Event} (i : ℕ) → Covers s before → position_from is_none 0 s.cells ≡ Some i
    → (i % s.width < s.width) × (i / s.width < s.height)
    × IsFirstPoint (StaysBlank before (box_of s)) (i % s.width) (i / s.width)
blank_place {s} {before} i d found =
    let first = first_place is_none s.cells None i found in
    let at = placed s.width s.height i (omega (arith, first.0, d.pixels)) in
    let here : is_none (get_or s.cells (i / s.width * s.width + i % s.width) None) ≡ true =
    ap (λ (n : ℕ). is_none (get_or s.cells n None)) at.2 ∙ first.1 in (
      at.0,
      at.1,
      record {
        holds = record {
          inside = and_from _ _ (lt-ltb (i % s.width) s.width at.0) (lt-ltb (i / s.width) s.height at.1);
          blank = not-true _ (sym (painted_there s before (i % s.width) (i / s.width) d at.0 at.1) ∙ here);
        };
        none_before = λ u v earlier blank.
            let point = in_box_place (box_of s) u v blank.inside in
            let lower = place_before s.width u v (i % s.width) (i / s.width) point.0 earlier in
            not_blank u v d point.0 point.1 (first.2 (v * s.width + u) (omega (arith, lower, at.2))) blank.blank;
      },
    )

pub small : (n : ℕ) → IsTrue (is_side n) → n < 18446744073709551615
small n h = let le : n ≤ most_side = leb-true n most_side
    (and_parts (nat_le 1 n) (nat_le n most_side) h).1 in omega arith

-- the first blank pixel is the first point of the box that no event paints, if there is any
pub first_blank_covered : {s : Grid} {before : List Event} → Covers s before
    → IsFirstIfAny (StaysBlank before (box_of s)) (first_blank s)
unfolding first_blank
first_blank_covered {s} {before} d = of_place (position_from is_none 0 s.cells) refl
  where
    of_place : (o : Option ℕ) → position_from is_none 0 s.cells ≡ o
        → IsFirstIfAny (StaysBlank before (box_of s)) (option_map (λ i. (i % s.width, i / s.width)) o)
    of_place None e = no_blank_place s before d e
    of_place (Some i) e =
        let found = blank_place i d e in
        let x_in : i % s.width < s.width = found.0 in
        let y_in : i / s.width < s.height = found.1 in
        let narrow : s.width < 18446744073709551615 = small s.width d.width in
        let low : s.height < 18446744073709551615 = small s.height d.height in
        let x_is : i % s.width ≡ capped (i % s.width) = omega arith in
        let y_is : i / s.width ≡ capped (i / s.width) = omega arith in
        (i % s.width, i / s.width, found.2, ap₂ (λ (x y : ℕ). Some (x, y)) x_is y_is)

-- the same for a grid that is drawn
pub first_blank_drawn : {kept : ℕ → ℕ} {s : Grid} {before : List Event} → IsDrawn kept s before
    → IsFirstIfAny (StaysBlank before (box_of s)) (first_blank s)
first_blank_drawn d =
    first_blank_covered (record { width = d.width; height = d.height; pixels = d.pixels; covered = d.covered })

-- ---- the registers of a grid without a blank pixel

pub length_drawn : {kept : ℕ → ℕ} {s : Grid} {before : List Event} (xs : List ℕ) → IsDrawn kept s before
    → map (λ r. Some r) xs ≡ s.cells → length xs ≡ s.width * s.height
length_drawn xs d e = sym (length-map xs (λ r. Some r)) ∙ ap length e ∙ d.pixels

all_kept : (kept : ℕ → ℕ) → ((r : ℕ) → kept r ≡ r) → (o : Option ℕ) → option_map kept o ≡ o
all_kept kept keeps None = refl
all_kept kept keeps (Some r) = ap (λ n. Some n) (keeps r)

-- if all registers are kept, each of these is the register that painted its pixel last
pub register_there : {kept : ℕ → ℕ} {s : Grid} {before : List Event} (xs : List ℕ) (i : ℕ) → ((r : ℕ) → kept r ≡ r)
    → IsDrawn kept s before → map (λ r. Some r) xs ≡ s.cells → i < length xs
    → register_at before (i % s.width) (i / s.width) ≡ Some (get_or xs i 0)
register_there {kept} {s} {before} xs i keeps d e lt =
    let within : i < s.width * s.height = omega (arith, length_drawn xs d e) in
    let at = placed s.width s.height i within in
    sym (all_kept kept keeps (register_at before (i % s.width) (i / s.width)))
    ∙ sym (d.registers (i % s.width) (i / s.width) at.0 at.1)
    ∙ cell_at s (i % s.width) (i / s.width) (omega (arith, at.2, d.pixels)) ∙ ap (λ (n : ℕ). get_or s.cells n None) at.2
    ∙ ap (λ (l : List (Option ℕ)). get_or l i None) (sym e) ∙ get_or-map (λ r. Some r) xs i 0 None lt

registers_drawn : {kept : ℕ → ℕ} {s : Grid} {before : List Event} (xs : List ℕ) → ((r : ℕ) → kept r ≡ r)
    → IsDrawn kept s before → map (λ r. Some r) xs ≡ s.cells
    → xs ≡ row_by_row s.width s.height (λ x y. unwrap_or (register_at before x y) 0)
registers_drawn {s} {before} xs keeps d e =
    rows_from_index s.width s.height (λ x y. unwrap_or (register_at before x y) 0) xs 0 (length_drawn xs d e)
    (λ i lt. ap (λ (o : Option ℕ). unwrap_or o 0)
    (sym (register_there xs i keeps d e (omega (arith, length_drawn xs d e)))))

-- the picture that the events leave has the size of the grid and these registers
pub picture_drawn : {kept : ℕ → ℕ} (registers : ℕ) {s : Grid} {before : List Event} (xs : List ℕ)
    → ((r : ℕ) → kept r ≡ r) → IsDrawn kept s before → map Some xs ≡ s.cells
    → picture_left registers before ≡ picture_of_parts s.width s.height (palette_left registers before) xs
unfolding picture_left
picture_drawn registers xs keeps d e = rw (d.box, registers_drawn xs keeps d e) refl
