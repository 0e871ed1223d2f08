-- The extent of a list, event by event.
use Rattle.std.proofs.Common.{◌≡◌, ◌==◌, ℕ, zero, suc, ◌+◌, ◌-◌, ◌*◌, ◌<◌, ◌≤◌, ◌⊎◌, Bool, true, false, Option, Some}
use Rattle.std.proofs.Common.{None, List, [], ◌∷◌, ◌++◌, length, max, inl, inr, refl, sym, ap, ◌∙◌, arith}
use Rattle.std.specs.Prelude.{IsTrue, if◌then◌else◌}
use Rattle.std.specs.Int.{bit_at}
use Rattle.std.specs.Option.{option_map_or}
use Rattle.std.proofs.lemmas.Bool.{cases_lt, eq-eqb, eqb-true}
use Rattle.std.proofs.lemmas.Bool.Decides.{nat_tests}
use Rattle.sixel_grammar.specs.declared.command.Command.TheVariants.{Sixel, Repeat}
use Rattle.sixel_grammar.specs.declared.command.Event.{Event}
use Rattle.sixel_grammar.specs.declared.command.Event.TheVariants.{Step}
use Rattle.sixel_model.specs.Events.{Attributes, bits_of, columns_of, is_square, raster_of}
use Rattle.sixel_model.specs.Geometry.{band, column, covers, touches}
use Rattle.sixel_model.specs.Positions.{latest}
use Rattle.sixel_model.proofs.CoverLemmas.{LiesUnder, covers_under, lies_under}
use Rattle.sixel_model.proofs.PositionLemmas.{holds_before, holds_end, holds_push, holds_within}
use Rattle.sixel_terminal.specs.Displays.{Display}
use Rattle.sixel_terminal.specs.Drawing.{height_of, touches_on}
use Rattle.sixel_mend.specs.declared.mending.Mending.{Mending}
use Rattle.sixel_mend.specs.Extents.{depth, depth_below, next_height, next_width, reached}
use Rattle.sixel_mend.specs.Screens.{mending_terminal}
use Rattle.sixel_mend.specs.Sizes.{IsExtent, IsTouched}

-- ---- the lowest set bit

depth_step : (n k : ℕ) (b : Bool) (rest : ℕ) → k < suc n → (k ≡ n → b ≡ true) → (k < n → k < rest)
    → k < (if b then suc n else rest)
depth_step n k true rest lt here low = lt
depth_step n k false rest lt here low = elim (cases_lt k n) [
  | inl below ↦ low below
  | inr above ↦ let no : false ≡ true = here (omega (arith, lt, above)) in cc
]

-- a number that passes is below the depth
pub passes_within : (n k : ℕ) (p : ℕ → Bool) → k < n → p k ≡ true → k < depth_below n p
passes_within zero k p lt h = absurd (omega arith)
passes_within (suc n) k p lt h =
    depth_step n k (p n) (depth_below n p) lt (λ e. ap p (sym e) ∙ h) (λ low. passes_within n k p low h)

-- the number above which the depth is passes, and the depth is at most n
pub record IsDepth (n : ℕ) (p : ℕ → Bool) (d : ℕ) : Type 0 where
  pub few : d ≤ n
  pub passes : 0 < d → p (d - 1) ≡ true

is_depth_step : {n : ℕ} {p : ℕ → Bool} (b : Bool) → p n ≡ b → IsDepth n p (depth_below n p)
    → IsDepth (suc n) p (if b then suc n else depth_below n p)
is_depth_step {n} true e h =
    let last : suc n - 1 ≡ n = omega arith in record { few = omega arith; passes = λ some. rw last e }
is_depth_step false e h = record { few = omega (arith, h.few); passes = h.passes }

pub is_depth : (n : ℕ) (p : ℕ → Bool) → IsDepth n p (depth_below n p)
is_depth zero p = record { few = omega arith; passes = λ some. absurd (omega arith) }
is_depth (suc n) p = is_depth_step (p n) refl (is_depth n p)

-- ---- a side that a command reaches

pub side_kept : (side rows to : ℕ) → side ≤ reached side rows to
side_kept side rows to = by (rows == 0)
  where
    by : (b : Bool) → side ≤ (if b then side else max side to)
    by true = omega arith
    by false = omega arith

pub side_reached : (side rows to : ℕ) → 0 < rows → to ≤ reached side rows to
side_reached side rows to some = by (rows == 0) refl
  where
    by : (b : Bool) → (rows == 0) ≡ b → to ≤ (if b then side else max side to)
    by true e = let none : rows ≡ 0 = eqb-true rows 0 e in absurd (omega (arith, some, none))
    by false e = omega arith

pub side_least : (side rows to bound : ℕ) → side ≤ bound → (0 < rows → to ≤ bound) → reached side rows to ≤ bound
side_least side rows to bound low more = by (rows == 0) refl
  where
    by : (b : Bool) → (rows == 0) ≡ b → (if b then side else max side to) ≤ bound
    by true e = low
    by false e = let some : 0 < rows = grind (arith, nat_tests) in omega (arith, low, more some)

-- ---- the points that a command touches

one_row_each : (tall : ℕ) (o : Option Attributes) → tall ≡ 1
    → option_map_or (λ (a : Attributes). if is_square a then 1 else tall) o tall ≡ 1
one_row_each tall None e = e
one_row_each tall (Some a) e = by (is_square a)
  where
    by : (b : Bool) → (if b then 1 else tall) ≡ 1
    by true = refl
    by false = e

one_row : (m : Mending) (w h : ℕ) (before : List Event) → height_of (mending_terminal m w h) before ≡ 1
unfolding height_of
one_row m w h before = one_row_each 1 (latest raster_of before) refl

-- a bit has one row, and a repeat of 0 one column
pub touches_as : (m : Mending) (w h : ℕ) (before : List Event) (e : Event) (x y : ℕ)
    → touches_on (mending_terminal m w h) before e x y
    ≡ covers (column 1 before) (columns_of 1 e) (band before) 1 (bits_of e) x y
unfolding touches_on touches
touches_as m w h before e x y = rw (one_row m w h before) refl

zero_or : (count : ℕ) → 0 < (if count == 0 then 1 else count)
zero_or count = grind (arith, nat_tests)

-- a command that paints has a column
some_columns : (e : Event) → 0 < depth (bits_of e) → 0 < columns_of 1 e
some_columns (Step (Sixel bits)) some = omega arith
some_columns (Step (Repeat count bits)) some = zero_or count
some_columns _ some = let no : 0 < 0 = some in absurd (omega arith)

-- ---- the touched points with one more event

touched_before : (t : Display) (before : List Event) (e : Event) (x y : ℕ) → IsTouched t before x y
    → IsTouched t (before ++ e ∷ []) x y
touched_before t before e x y touched =
    let P = λ (earlier : List Event) (d : Event). IsTrue (touches_on t earlier d x y) in
    (touched.0, holds_before P before e touched.0 (holds_within P before touched.0 touched.1) touched.1)

touched_end : (t : Display) (before : List Event) (e : Event) (x y : ℕ) → touches_on t before e x y ≡ true
    → IsTouched t (before ++ e ∷ []) x y
touched_end t before e x y here =
    (length before, holds_end (λ earlier d. IsTrue (touches_on t earlier d x y)) before e here)

touched_push : (t : Display) (before : List Event) (e : Event) (x y : ℕ) → IsTouched t (before ++ e ∷ []) x y
    → IsTouched t before x y ⊎ (touches_on t before e x y ≡ true)
touched_push t before e x y touched =
    elim (holds_push (λ earlier d. IsTrue (touches_on t earlier d x y)) before e touched.0 touched.1) [
      | inl b ↦ inl (touched.0, b.1)
      | inr b ↦ inr b.1
    ]

-- ---- the extent with one more event

-- the points that a command touches lie within where it reaches
touched_within : (m : Mending) (w h : ℕ) (before : List Event) (e : Event) (width height x y : ℕ)
    → touches_on (mending_terminal m w h) before e x y ≡ true
    → (x < next_width width before e) × (y < next_height height before e)
touched_within m w h before e width height x y touched =
    let u : LiesUnder (column 1 before) (columns_of 1 e) (band before) (bits_of e) x y =
    lies_under (column 1 before) (columns_of 1 e) (band before) (bits_of e) x y
    (sym (touches_as m w h before e x y) ∙ touched) in
    let rows = depth (bits_of e) in
    let low : u.bit < rows =
    passes_within 6 u.bit (λ k. bit_at (bits_of e) k == 1) u.below (eq-eqb (bit_at (bits_of e) u.bit) 1 u.set) in
    let some : 0 < rows = omega (arith, low) in (
      omega (arith, u.to, side_reached width rows (column 1 before + columns_of 1 e) some),
      omega (arith, u.row, low, side_reached height rows (6 * band before + rows) some),
    )

-- the last column and the lowest row of a command that paints are touched
touched_corner : (m : Mending) (w h : ℕ) (before : List Event) (e : Event) → 0 < depth (bits_of e)
    → touches_on (mending_terminal m w h) before e (column 1 before + (columns_of 1 e - 1))
    (6 * band before + (depth (bits_of e) - 1))
    ≡ true
touched_corner m w h before e some =
    let rows = depth (bits_of e) in
    let is : IsDepth 6 (λ k. bit_at (bits_of e) k == 1) rows = is_depth 6 (λ k. bit_at (bits_of e) k == 1) in
    let columns : 0 < columns_of 1 e = some_columns e some in
    touches_as m w h before e (column 1 before + (columns_of 1 e - 1)) (6 * band before + (rows - 1))
    ∙ covers_under (column 1 before) (columns_of 1 e) (band before) (bits_of e)
    (column 1 before + (columns_of 1 e - 1)) (6 * band before + (rows - 1))
    (record {
      bit = rows - 1;
      below = omega (arith, is.few, some);
      set = eqb-true (bit_at (bits_of e) (rows - 1)) 1 (is.passes some);
      row = refl;
      from = omega arith;
      to = omega (arith, columns);
    })

pub extent_push : (m : Mending) (w h : ℕ) {before : List Event} (e : Event) {width height : ℕ}
    → IsExtent (mending_terminal m w h) before width height
    → IsExtent (mending_terminal m w h) (before ++ e ∷ []) (next_width width before e) (next_height height before e)
extent_push m w h {before} e {width} {height} is =
    let t = mending_terminal m w h in
    let rows = depth (bits_of e) in
    let right = column 1 before + columns_of 1 e in
    let bottom = 6 * band before + rows in
    record {
      bounds = λ x y touched. elim (touched_push t before e x y touched) [
        | inl old ↦
            let inside = is.bounds x y old in (
              omega (arith, inside.0, side_kept width rows right),
              omega (arith, inside.1, side_kept height rows bottom),
            )
        | inr new ↦ touched_within m w h before e width height x y new
      ];
      least = λ v u bounds.
          let old = is.least v u (λ x y touched. bounds x y (touched_before t before e x y touched)) in
          let new : 0 < rows → (right ≤ v) × (bottom ≤ u) = λ some.
          let corner = bounds _ _ (touched_end t before e _ _ (touched_corner m w h before e some)) in
          let columns : 0 < columns_of 1 e = some_columns e some in
          (omega (arith, corner.0, columns), omega (arith, corner.1, some)) in (
            side_least width rows right v old.0 (λ some. (new some).0),
            side_least height rows bottom u old.1 (λ some. (new some).1),
          );
    }

-- no point is touched before any event
pub extent_none : (t : Display) → IsExtent t [] 0 0
extent_none t = record {
  bounds = λ x y touched. (let none = (touched.1).here in cc);
  least = λ v u bounds. (omega arith, omega arith);
}
