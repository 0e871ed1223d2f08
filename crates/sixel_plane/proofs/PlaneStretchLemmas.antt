-- The grid after painting the columns of data bytes.
use Rattle.std.proofs.Common.{◌≡◌, ◌==◌, ℕ, ◌+◌, ◌-◌, ◌*◌, ◌/◌, ◌%◌, ◌<◌, ◌≤◌, Bool, true, false, ◌&&◌, ◌||◌, cond}
use Rattle.std.proofs.Common.{Option, Some, None, List, length, get_or, nat_le, nat_lt, inl, inr, refl, sym, ap, ap₂}
use Rattle.std.proofs.Common.{◌∙◌, arith, subst}
use Rattle.std.specs.Int.{bit_at, div_ceil}
use Rattle.std.specs.Int.Bits.{bit_or, or_zero_r}
use Rattle.std.specs.Option.{option_flatten}
use Rattle.std.proofs.lemmas.Bool.Decides.{nat_tests}
use Rattle.std.proofs.lemmas.Bool.{and_parts, and_from, leb-true, ltb-true, le-leb, lt-ltb, le-ltb, eqb-true, eq-eqb}
use Rattle.std.proofs.lemmas.Bool.{cond-true, cond-false, cases_lt}
use Rattle.std.proofs.lemmas.Nat.{mod_below}
use Rattle.std.proofs.lemmas.Nat.Bits.{bit_at-zero}
use Rattle.sixel_model.specs.Geometry.{covers}
use Rattle.sixel_model.specs.Positions.{any_below}
use Rattle.sixel_model.specs.Grids.{Grid, cell, painted_grid}
use Rattle.sixel_plane.specs.BandPlanes.{has_coverage_bit, grid_of_bands}
use Rattle.std.proofs.lemmas.Bool.{cond-false}
use Rattle.sixel_plane.specs.Stretches.{AreMapped, ArePainted, in_row, in_stretch, run_sixel, sixel_of}
use Rattle.sixel_plane.specs.Stretches.{stretched_grid}
use Rattle.sixel_model.proofs.GridLemmas.{at_rows, length_rows}
use Rattle.sixel_model.proofs.CoverLemmas.{passes_below, any_below_at}
use Rattle.sixel_plane.proofs.BandLemmas.{band_fits, covered_band, or_bit}
use Rattle.sixel_plane.proofs.PaintedLemmas.{pixels_after, place_fits, same_rows}
use Rattle.sixel_model.proofs.RunLemmas.{in_row_at, same_test}

cell-stretched : (s : Grid) (left band count : ℕ) (f : ℕ → ℕ) (r x y : ℕ) → x < s.width → y < s.height
    → cell (stretched_grid s left band count f r) x y
    ≡ cond (in_stretch left band count f x y) (Some r) (cell s x y)
unfolding cell stretched_grid
cell-stretched s left band count f r x y p q = ap option_flatten (at_rows s.width s.height _ x y p q)

-- ---- a column at a time

-- the rows of a band
in_band : (band line : ℕ) → (nat_le band line && nat_lt line (band + 1)) ≡ (line == band)
in_band band line =
    same_test _ _
    (λ t.
    let parts = and_parts (nat_le band line) (nat_lt line (band + 1)) t in
    let low = leb-true _ _ parts.0 in
    let high = ltb-true _ _ parts.1 in
    eq-eqb line band (omega arith))
    (λ t.
    let same : line ≡ band = eqb-true line band t in
    and_from _ _ (le-leb band line (omega arith)) (lt-ltb line (band + 1) (omega arith)))

-- a run covers the pixels of its columns in its band, in the rows of set bits
covered_there : (left count band bits x y : ℕ) → covers left count band 1 bits x y
    ≡ (((nat_le left x && nat_lt x (left + count)) && (y / 6 == band)) && (bit_at bits (y % 6) == 1))
covered_there left count band bits x y =
    covered_band left count band bits x y
    ∙ ap (λ (b : Bool). ((nat_le left x && nat_lt x (left + count)) && b) && (bit_at bits (y % 6) == 1))
    (in_band band (y / 6))

no_column : (left x k : ℕ) (b : Bool) (f : ℕ → ℕ)
    → (((nat_le left x && nat_lt x (left + 0)) && b) && (bit_at (f (x - left)) k == 1)) ≡ false
no_column left x k b f = elim (cases_lt x left) [
  | inl below ↦ grind (arith, nat_tests)
  | inr from ↦ grind (arith, nat_tests)
]

one_column : (left n x k : ℕ) (b : Bool) (f : ℕ → ℕ)
    → (((nat_le left x && nat_lt x (left + (n + 1))) && b) && (bit_at (f (x - left)) k == 1))
    ≡ ((((nat_le (left + n) x && nat_lt x (left + n + 1)) && b) && (bit_at (f n) k == 1))
    || (((nat_le left x && nat_lt x (left + n)) && b) && (bit_at (f (x - left)) k == 1)))
one_column left n x k b f = elim (cases_lt x (left + n)) [
  | inl below ↦ grind (arith, nat_tests)
  | inr from ↦ elim (cases_lt x (left + n + 1)) [
    | inl to ↦
        let here : x - left ≡ n = omega arith in
        let bit : (bit_at (f (x - left)) k == 1) ≡ (bit_at (f n) k == 1) = ap (λ j. bit_at (f j) k == 1) here in
        grind (arith, nat_tests)
    | inr above ↦ grind (arith, nat_tests)
  ]
]

blank_column : (left n x k : ℕ) (b : Bool) (f : ℕ → ℕ) → f n ≡ 0
    → (((nat_le left x && nat_lt x (left + (n + 1))) && b) && (bit_at (f (x - left)) k == 1))
    ≡ (((nat_le left x && nat_lt x (left + n)) && b) && (bit_at (f (x - left)) k == 1))
blank_column left n x k b f none = elim (cases_lt x (left + n)) [
  | inl below ↦ grind (arith, nat_tests)
  | inr from ↦ elim (cases_lt x (left + n + 1)) [
    | inl to ↦
        let here : x - left ≡ n = omega arith in
        let clear : (bit_at (f (x - left)) k == 1) ≡ false =
        ap (λ j. bit_at (f j) k == 1) here ∙ ap (λ m. bit_at m k == 1) none ∙ ap (λ m. m == 1) (bit_at-zero k) in
        grind (arith, nat_tests)
    | inr above ↦ grind (arith, nat_tests)
  ]
]

either : {A : Type 0} (a b : Bool) (x o : A) → cond (a || b) x o ≡ cond a x (cond b x o)
either true b x o = refl
either false b x o = refl

-- no columns paint nothing
pub stretched_none : (s : Grid) (left band : ℕ) (f : ℕ → ℕ) (r x y : ℕ) → x < s.width → y < s.height
    → cell (stretched_grid s left band 0 f r) x y ≡ cell s x y
stretched_none s left band f r x y inside_x inside_y =
    cell-stretched s left band 0 f r x y inside_x inside_y
    ∙ ap (λ (t : Bool). cond t (Some r) (cell s x y))
    (no_column left x (y % 6) (y / 6 == band) f)

-- a last column without bits changes nothing
pub stretched_blank : (s : Grid) (left band n : ℕ) (f : ℕ → ℕ) (r x y : ℕ) → f n ≡ 0 → x < s.width → y < s.height
    → cell (stretched_grid s left band (n + 1) f r) x y ≡ cell (stretched_grid s left band n f r) x y
stretched_blank s left band n f r x y none inside_x inside_y =
    let b : Bool = y / 6 == band in
    cell-stretched s left band (n + 1) f r x y inside_x inside_y
    ∙ ap (λ (t : Bool). cond t (Some r) (cell s x y)) (blank_column left n x (y % 6) b f none)
    ∙ sym (cell-stretched s left band n f r x y inside_x inside_y)

-- one more column is painted after the others
pub stretched_more : (s : Grid) (left band n : ℕ) (f : ℕ → ℕ) (r : ℕ) → 0 < s.width
    → painted_grid (stretched_grid s left band n f r) (left + n) band 1 (f n) r
    ≡ stretched_grid s left band (n + 1) f r
unfolding painted_grid stretched_grid
stretched_more s left band n f r some =
    ap (λ (cells : List (Option ℕ)). record { width = s.width; height = s.height; cells = cells })
    (same_rows s.width s.height
    (λ x y. cond (covers (left + n) 1 band 1 (f n) x y) (Some r) (cell (stretched_grid s left band n f r) x y))
    (λ x y. cond (in_stretch left band (n + 1) f x y) (Some r) (cell s x y)) None some
    (λ x y inside_x inside_y.
    let b : Bool = y / 6 == band in
    ap₂ (λ (t : Bool) (o : Option ℕ). cond t (Some r) o) (covered_there (left + n) 1 band (f n) x y)
    (cell-stretched s left band n f r x y inside_x inside_y)
    ∙ sym (either _ (in_stretch left band n f x y) (Some r) (cell s x y))
    ∙ sym (ap (λ (t : Bool). cond t (Some r) (cell s x y)) (one_column left n x (y % 6) b f))))

-- ---- all at once

module _ (w left band count n start : ℕ) (f : ℕ → ℕ) (fits : left + count ≤ w) (at_start : start ≡ 6 * band * w + left)
    (none : (j : ℕ) → count ≤ j → f j ≡ 0) (more : count ≤ n) (x y : ℕ) (inside : x < w) where
  row_start : (k : ℕ) → (6 * band + k) * w + left ≡ start + k * w
  row_start k = omega (arith, at_start)

  no_bit_past : (j k : ℕ) → bit_at (f j) k ≡ 1 → j < count
  no_bit_past j k set = elim (cases_lt j count) [
    | inl few ↦ few
    | inr past ↦
        let zero_there : bit_at (f j) k ≡ 0 = ap (λ b. bit_at b k) (none j past) ∙ bit_at-zero k in
        absurd (omega (arith, set, zero_there))
  ]

  to_stretch : any_below 6 (in_row w start n f (y * w + x)) ≡ true → in_stretch left band count f x y ≡ true
  to_stretch t =
      let i : ℕ = y * w + x in
      let found = passes_below 6 (in_row w start n f i) t in
      let k : ℕ = found.number in
      let few_bits : k < 6 = found.below in
      let s : ℕ = start + k * w in
      let parts = and_parts (nat_le s i && nat_lt i (s + n)) (bit_at (f (i - s)) k == 1) found.passes in
      let columns = and_parts (nat_le s i) (nat_lt i (s + n)) parts.0 in
      let from : s ≤ i = leb-true _ _ columns.0 in
      let set : bit_at (f (i - s)) k ≡ 1 = eqb-true _ _ parts.1 in
      let few : i - s < count = no_bit_past (i - s) k set in
      let begins : (6 * band + k) * w + left ≡ s = row_start k in
      let placed = sym (in_row_at w (6 * band + k) y x left count inside fits)
      ∙ and_from (nat_le ((6 * band + k) * w + left) i) (nat_lt i ((6 * band + k) * w + left + count))
      (le-leb _ _ (omega (arith, begins, from))) (lt-ltb _ _ (omega (arith, begins, from, few))) in
      let both = and_parts (nat_le left x && nat_lt x (left + count))
      (nat_le (6 * band + k) y && nat_lt y (6 * band + k + 1)) placed in
      let rows = and_parts (nat_le (6 * band + k) y) (nat_lt y (6 * band + k + 1)) both.1 in
      let low = leb-true _ _ rows.0 in
      let high = ltb-true _ _ rows.1 in
      let row : y ≡ 6 * band + k = omega arith in
      let line : y / 6 ≡ band = omega arith in
      let bit : y % 6 ≡ k = omega arith in
      let same_row : y * w ≡ (6 * band + k) * w = ap (λ m. m * w) row in
      let lane : i - s ≡ x - left = omega (arith, same_row, begins) in
      and_from _ _ (and_from _ _ both.0
      (eq-eqb (y / 6) band line))
      (ap₂ (λ j m. bit_at (f j) m == 1) (sym lane) bit ∙ eq-eqb _ _ set)

  from_stretch : in_stretch left band count f x y ≡ true → any_below 6 (in_row w start n f (y * w + x)) ≡ true
  from_stretch t =
      let i : ℕ = y * w + x in
      let parts = and_parts
      ((nat_le left x && nat_lt x (left + count)) && (y / 6 == band))
      (bit_at (f (x - left)) (y % 6) == 1) t in
      let both = and_parts (nat_le left x && nat_lt x (left + count))
      (y / 6 == band) parts.0 in
      let columns = and_parts (nat_le left x) (nat_lt x (left + count)) both.0 in
      let from = leb-true _ _ columns.0 in
      let to = ltb-true _ _ columns.1 in
      let line : y / 6 ≡ band = eqb-true (y / 6) band both.1 in
      let k : ℕ = y % 6 in
      let row : 6 * band + k ≡ y = omega arith in
      let begins : (6 * band + k) * w + left ≡ start + k * w = row_start k in
      let same_row : (6 * band + k) * w ≡ y * w = ap (λ m. m * w) row in
      let s : ℕ = start + k * w in
      let lane : x - left ≡ i - s = omega (arith, same_row, begins) in
      any_below_at 6 k (in_row w start n f i) (mod_below y 6 (omega arith))
      (and_from _ _
      (and_from _ _ (le-leb s i (omega (arith, same_row, begins)))
      (lt-ltb i (s + n) (omega (arith, same_row, begins))))
      (ap (λ j. bit_at (f j) k == 1) (sym lane) ∙ parts.1))

  rows_test : any_below 6 (in_row w start n f (y * w + x)) ≡ in_stretch left band count f x y
  rows_test = same_test _ _ to_stretch from_stretch

-- a column's coverage byte, if the columns after the data bytes have no bits
byte_after : (covered count n i old new : ℕ) (f : ℕ → ℕ) → count ≤ n → ((j : ℕ) → count ≤ j → f j ≡ 0)
    → new ≡ cond (nat_le covered i && nat_lt i (covered + n)) (bit_or old (f (i - covered))) old
    → new ≡ cond (nat_le covered i && nat_lt i (covered + count)) (bit_or old (f (i - covered))) old
byte_after covered count n i old new f more none is = elim (cases_lt i (covered + count)) [
  | inl to ↦ grind (arith, nat_tests)
  | inr past ↦
      let zero_there : f (i - covered) ≡ 0 = none (i - covered) (omega arith) in
      let kept : bit_or old (f (i - covered)) ≡ old = ap (bit_or old) zero_there ∙ or_zero_r old in
      grind (arith, nat_tests)
]

pub covered_column : (w left band count n covered : ℕ) (f : ℕ → ℕ) (old new : List ℕ) (x y : ℕ) → x < w → left + count ≤ w
    → count ≤ n → ((j : ℕ) → count ≤ j → f j ≡ 0) → covered ≡ band * w + left → y / 6 * w + x < length old
    → AreMapped covered n (λ j b. bit_or b (f j)) old new
    → has_coverage_bit w new x y ≡ (in_stretch left band count f x y || has_coverage_bit w old x y)
covered_column w left band count n covered f old new x y inside fits more none at there mapped =
    let i : ℕ = y / 6 * w + x in
    let before : ℕ = get_or old i 0 in
    let byte = byte_after covered count n i before (get_or new i 0) f more none (mapped.changed i there) in
    let place : (nat_le covered i && nat_lt i (covered + count))
    ≡ ((nat_le left x && nat_lt x (left + count)) && (y / 6 == band)) =
    subst (λ (c : ℕ). (nat_le c i && nat_lt i (c + count))
    ≡ ((nat_le left x && nat_lt x (left + count)) && (y / 6 == band))) (sym at)
    (in_row_at w band (y / 6) x left count inside fits
    ∙ ap (λ (b : Bool). (nat_le left x && nat_lt x (left + count)) && b) (in_band band (y / 6))) in
    ap (λ (b : ℕ). bit_at b (y % 6) == 1)
    (byte ∙ ap (λ (t : Bool). cond t (bit_or before (f (i - covered))) before) place)
    ∙ or_bit _ before (f (i - covered)) (y % 6)
    ∙ ap (λ (t : Bool). t || (bit_at before (y % 6) == 1))
    (lane_there _ refl)
  where
    lane_there : (t : Bool)
        → ((nat_le left x && nat_lt x (left + count)) && (y / 6 == band)) ≡ t
        → (((nat_le left x && nat_lt x (left + count)) && (y / 6 == band))
        && (bit_at (f (y / 6 * w + x - covered)) (y % 6) == 1)) ≡ in_stretch left band count f x y
    lane_there true t =
        let both = and_parts (nat_le left x && nat_lt x (left + count))
        (y / 6 == band) t in
        let columns = and_parts (nat_le left x) (nat_lt x (left + count)) both.0 in
        let from = leb-true _ _ columns.0 in
        let line : y / 6 ≡ band = eqb-true (y / 6) band both.1 in
        let same_row : y / 6 * w ≡ band * w = ap (λ m. m * w) line in
        let lane : y / 6 * w + x - covered ≡ x - left = omega (arith, same_row, at) in
        ap (λ (j : ℕ). ((nat_le left x && nat_lt x (left + count)) &&
        (y / 6 == band))
        && (bit_at (f j) (y % 6) == 1)) lane
    lane_there false t = rw t refl

-- the grid after all columns are painted
pub stretched_bands : (w h left band count n start covered : ℕ) (f : ℕ → ℕ) (r : ℕ)
    (registers coverage registers_after coverage_after : List ℕ)
    → 0 < w → left + count ≤ w → length registers ≡ w * h → length coverage ≡ w * div_ceil h 6
    → count ≤ n → ((j : ℕ) → count ≤ j → f j ≡ 0) → start ≡ 6 * band * w + left → covered ≡ band * w + left
    → ArePainted 6 w start n f r registers registers_after
    → AreMapped covered n (λ j b. bit_or b (f j)) coverage coverage_after
    → grid_of_bands w h registers_after coverage_after
    ≡ stretched_grid (grid_of_bands w h registers coverage) left band count f r
unfolding stretched_grid
stretched_bands w h left band count n start covered f r registers coverage registers_after coverage_after
    some fits whole bands more none at_start at_covered painted mapped =
    ap (λ (cells : List (Option ℕ)). record { width = w; height = h; cells = cells })
    (pixels_after w h r registers registers_after (in_stretch left band count f) (has_coverage_bit w coverage)
    (has_coverage_bit w coverage_after) some
    (λ x y inside_x inside_y.
    covered_column w left band count n covered f coverage coverage_after x y inside_x fits more none at_covered
    (rw bands (band_fits w h x y inside_x inside_y)) mapped)
    (λ x y inside_x inside_y.
    painted.pixels (y * w + x) (rw whole (place_fits w h x y inside_x inside_y))
    ∙ ap (λ (b : Bool). cond b r (get_or registers (y * w + x) 0))
    (rows_test w left band count n start f fits at_start none more x y inside_x)))

pub stretched_length : (s : Grid) (left band n : ℕ) (f : ℕ → ℕ) (r : ℕ)
    → length (stretched_grid s left band n f r).cells ≡ s.width * s.height
unfolding stretched_grid
stretched_length s left band n f r = length_rows s.width s.height _

pub stretched_width : (s : Grid) (left band n : ℕ) (f : ℕ → ℕ) (r : ℕ)
    → (stretched_grid s left band n f r).width ≡ s.width
unfolding stretched_grid
stretched_width s left band n f r = refl

pub stretched_height : (s : Grid) (left band n : ℕ) (f : ℕ → ℕ) (r : ℕ)
    → (stretched_grid s left band n f r).height ≡ s.height
unfolding stretched_grid
stretched_height s left band n f r = refl

-- after the data bytes all sixels are 0
pub none_past : (bytes : List ℕ) (count j : ℕ) → count ≤ j → sixel_of bytes count j ≡ 0
none_past bytes count j past = cond-false _ _ _ (le-ltb j count past)

-- ---- a short run

run_column : (left count x k bits : ℕ) (b : Bool)
    → (((nat_le left x && nat_lt x (left + count)) && b) && (bit_at (run_sixel bits count (x - left)) k == 1))
    ≡ (((nat_le left x && nat_lt x (left + count)) && b) && (bit_at bits k == 1))
run_column left count x k bits b = elim (cases_lt x (left + count)) [
  | inl below ↦ elim (cases_lt x left) [
    | inl before ↦ grind (arith, nat_tests)
    | inr from ↦
        let here : run_sixel bits count (x - left) ≡ bits = cond-true _ _ _ (lt-ltb (x - left) count (omega arith)) in
        ap (λ m. ((nat_le left x && nat_lt x (left + count)) && b) && (bit_at m k == 1)) here
  ]
  | inr past ↦ grind (arith, nat_tests)
]

-- columns with equal sixels are a run
pub stretched_run : (s : Grid) (left band count bits r : ℕ) → 0 < s.width
    → stretched_grid s left band count (run_sixel bits count) r ≡ painted_grid s left band count bits r
unfolding painted_grid stretched_grid
stretched_run s left band count bits r some =
    ap (λ (cells : List (Option ℕ)). record { width = s.width; height = s.height; cells = cells })
    (same_rows s.width s.height
    (λ x y. cond (in_stretch left band count (run_sixel bits count) x y) (Some r) (cell s x y))
    (λ x y. cond (covers left count band 1 bits x y) (Some r) (cell s x y)) None some
    (λ x y inside_x inside_y.
    ap (λ (t : Bool). cond t (Some r) (cell s x y))
    (run_column left count x (y % 6) bits (y / 6 == band)
    ∙ sym (covered_there left count band bits x y))))

-- after the run all sixels are 0
pub no_run_past : (bits count j : ℕ) → count ≤ j → run_sixel bits count j ≡ 0
no_run_past bits count j past = cond-false _ _ _ (le-ltb j count past)
