-- On the first point that a run paints outside a box.
use Rattle.std.proofs.Common.{◌≡◌, ℕ, ◌+◌, ◌*◌, ◌<◌, ◌≤◌, Bool, true, false, ◌&&◌, ◌==◌, min, max, Option, Some, None}
use Rattle.std.proofs.Common.{nat_le, nat_lt, refl, ap, ap₂, arith, inl, inr, ◌⊎◌, ◌∙◌, subst}
use Rattle.std.specs.Prelude.{if◌then◌else◌}
use Rattle.std.specs.Int.{bit_at}
use Rattle.std.proofs.lemmas.Bool.{and_from, and_left, and_parts, and_right, eqb-true, or_cases}
use Rattle.std.proofs.lemmas.Nat.Bits.{bit_at-zero}
use Rattle.std.proofs.lemmas.Bool.{le-ltb, leb-false, leb-true, lt-ltb, ltb-false, ltb-true}
use Rattle.sixel_model.specs.Rules.{IsFirstPoint}
use Rattle.sixel_model.proofs.CoverLemmas.{covers_under, lies_under}
use Rattle.sixel_judge.specs.Outside.{IsFirstIfAny, PaintsOutside, first_column}
use Rattle.sixel_judge.specs.Verdicts.{capped}

-- a run from a capped column on, in a capped band
pub record IsCapped (column band left line width height : ℕ) : Type 0 where
  pub column_is : column ≡ min left 18446744073709551615
  pub band_is : band ≡ min line 18446744073709551615
  pub narrow : width < 4294967296
  pub low : height < 4294967296

-- all columns of the row lie inside
pub record Fits (left count row width height : ℕ) : Type 0 where
  pub within : left + count ≤ width
  pub above : row < height

fits_row : {column band left line width height : ℕ} (count k : ℕ) → IsCapped column band left line width height
    → capped (6 * band + k) < height → column + count ≤ width → Fits left count (6 * line + k) width height
fits_row {band} {height} count k c above within =
    let row : min (6 * band + k) 18446744073709551615 < height = above in
    record { within = omega arith; above = omega arith }

-- the first column outside: the row lies below the box, or the columns reach over its right edge
pub record IsFirstColumn (left count row width height x : ℕ) : Type 0 where
  pub is : ((height ≤ row) × (x ≡ left)) ⊎ ((row < height) × (width < left + count) × (x ≡ max left width))

-- the first column outside is x; None if all lie inside
abbrev IsColumnOf : ℕ → ℕ → ℕ → ℕ → ℕ → Option ℕ → Type 0
IsColumnOf left count row width height None = (row < height) × (left + count ≤ width)
IsColumnOf left count row width height (Some x) = IsFirstColumn left count row width height x

column_is : (left count row width height : ℕ)
    → IsColumnOf left count row width height (first_column left count row width height)
column_is left count row width height =
    by_tests (nat_le height row) refl (nat_lt width (left + count)) refl
  where
    by_tests : (b : Bool) → nat_le height row ≡ b → (c : Bool) → nat_lt width (left + count) ≡ c
        → IsColumnOf left count row width height (if b then Some left else if c then Some (max left width) else None)
    by_tests true e c f = record { is = inl (leb-true height row e, refl) }
    by_tests false e true f = record { is = inr (leb-false height row e, ltb-true width (left + count) f, refl) }
    by_tests false e false f = (leb-false height row e, ltb-false width (left + count) f)

-- each set bit below n paints only inside the box
pub record AllFit (n left count line bits width height : ℕ) : Type 0 where
  pub fits : (j : ℕ) → j < n → bit_at bits j ≡ 1 → Fits left count (6 * line + j) width height

pub all_fit : (n : ℕ) {column band left line width height : ℕ} (count bits : ℕ)
    → IsCapped column band left line width height
    → ((j : ℕ) → j < n → bit_at bits j ≡ 1 → first_column column count (capped (6 * band + j)) width height ≡ None)
    → AllFit n left count line bits width height
all_fit n {column} {band} {width} {height} count bits c h = record {
  fits = λ j lt set.
      let row : ℕ = capped (6 * band + j) in
      let none = subst (IsColumnOf column count row width height) (h j lt set)
      (column_is column count row width height) in
      fits_row count j c none.0 none.1;
}

-- a run that lies in the box in all six rows of its band paints only inside it
pub inside_fits : (column band left line width height count bits : ℕ) → IsCapped column band left line width height
    → column + count ≤ width → 6 * band + 6 ≤ height → AllFit 6 left count line bits width height
inside_fits column band left line width height count bits c across down = record {
  fits = λ j lt set. record { within = omega arith; above = omega arith };
}

-- a run without a set bit paints only inside
pub no_bits_fit : (left count line bits width height : ℕ) → bits ≡ 0 → AllFit 6 left count line bits width height
no_bits_fit left count line bits width height none = record {
  fits = λ j lt set.
      let clear : bit_at bits j ≡ 0 = ap (λ b. bit_at b j) none ∙ bit_at-zero j in
      cc;
}

-- a point under a bit whose row fits isn't outside
not_outside : (left count row width height x y : ℕ) → Fits left count row width height → x < left + count → y ≡ row
    → (nat_lt x width && nat_lt y height) ≡ false → ⊥
not_outside left count row width height x y f to at out =
    let within : left + count ≤ width = f.within in
    let above : row < height = f.above in
    let inside : (nat_lt x width && nat_lt y height) ≡ true =
    and_from _ _ (lt-ltb x width (omega arith)) (lt-ltb y height (omega arith)) in
    cc

-- if each set bit fits, no point is painted outside
pub none_outside : (left count line bits width height : ℕ) → AllFit 6 left count line bits width height
    → (x y : ℕ) → PaintsOutside left count line bits width height x y → ⊥
none_outside left count line bits width height fit x y p =
    let u = lies_under left count line bits x y p.painted in
    not_outside left count (6 * line + u.bit) width height x y (fit.fits u.bit u.below u.set) u.to u.row p.outside

-- a computed column is the exact one, capped
pub record IsColumnBefore (left count row width height c : ℕ) : Type 0 where
  pub x : ℕ
  pub first : IsFirstColumn left count row width height x
  pub is : c ≡ capped x

column_before : {column band left line width height count : ℕ} (k : ℕ) {c : ℕ}
    → IsCapped column band left line width height → IsFirstColumn column count (capped (6 * band + k)) width height c
    → IsColumnBefore left count (6 * line + k) width height c
column_before {column} {band} {left} {width} {height} {count} k {c} w h =
    elim h.is [
      | inl below ↦
          let row : height ≤ min (6 * band + k) 18446744073709551615 = below.0 in
          let same : c ≡ column = below.1 in
          record { x = left; first = record { is = inl (omega arith, refl) }; is = omega arith }
      | inr across ↦
          let row : min (6 * band + k) 18446744073709551615 < height = across.0 in
          let over : width < column + count = across.1 in
          let same : c ≡ max column width = across.2 in
          record {
            x = max left width;
            first = record { is = inr (omega arith, omega arith, refl) };
            is = omega arith;
          }
    ]

same_row : {column band left line width height : ℕ} (k : ℕ) → IsCapped column band left line width height
    → capped (6 * band + k) ≡ capped (6 * line + k)
same_row k w = omega arith

-- the first column outside is one of the run's columns, and lies outside
first_is_outside : {left count row width height x : ℕ} → IsFirstColumn left count row width height x → 0 < count
    → (left ≤ x) × (x < left + count) × ((nat_lt x width && nat_lt row height) ≡ false)
first_is_outside {left} {count} {row} {width} {height} {x} f some = elim f.is [
  | inl below ↦
      let from : height ≤ row = below.0 in
      let same : x ≡ left = below.1 in
      (omega arith, omega arith, and_right (nat_lt x width) (nat_lt row height) (le-ltb row height from))
  | inr across ↦
      let over : width < left + count = across.1 in
      let same : x ≡ max left width = across.2 in
      (omega arith, omega arith, and_left (nat_lt x width) (nat_lt row height) (le-ltb x width (omega arith)))
]

-- no column of the run before it lies outside
none_left_of : {left count row width height x : ℕ} (u : ℕ) → IsFirstColumn left count row width height x → left ≤ u
    → u < x → (nat_lt u width && nat_lt row height) ≡ false → ⊥
none_left_of {left} {row} {width} {height} {x} u f from before out = elim f.is [
  | inl below ↦ let same : x ≡ left = below.1 in omega arith
  | inr across ↦
      let above : row < height = across.0 in
      let same : x ≡ max left width = across.2 in
      let inside : (nat_lt u width && nat_lt row height) ≡ true =
      and_from _ _ (lt-ltb u width (omega arith)) (lt-ltb row height above) in
      cc
]

-- if each set bit below k fits, and bit k has a first column outside, that is the first point
first_point : (left count line bits width height k x : ℕ) → AllFit k left count line bits width height → k < 6
    → bit_at bits k ≡ 1 → 0 < count → IsFirstColumn left count (6 * line + k) width height x
    → IsFirstPoint (PaintsOutside left count line bits width height) x (6 * line + k)
first_point left count line bits width height k x fit six set some f =
    let here = first_is_outside f some in
    record {
      holds = record {
        painted = covers_under left count line bits x (6 * line + k)
            (record { bit = k; below = six; set = set; row = refl; from = here.0; to = here.1 });
        outside = here.2;
      };
      none_before = λ u v before p.
          let under = lies_under left count line bits u v p.painted in
          let j : ℕ = under.bit in
          let row : v ≡ 6 * line + j = under.row in
          let out : (nat_lt u width && nat_lt v height) ≡ false = p.outside in
          elim (or_cases (nat_lt v (6 * line + k)) ((v == 6 * line + k) && nat_lt u x) before) [
            | inl above ↦
                let lower : v < 6 * line + k = ltb-true v (6 * line + k) above in
                let fits = fit.fits j (omega arith) under.set in
                not_outside left count (6 * line + j) width height u v fits under.to row out
            | inr beside ↦
                let parts = and_parts (v == 6 * line + k) (nat_lt u x) beside in
                let same : v ≡ 6 * line + k = eqb-true v (6 * line + k) parts.0 in
                let earlier : u < x = ltb-true u x parts.1 in
                none_left_of u f under.from earlier (rw same at out)
          ];
    }

-- the first point of a run from a capped column on, in a capped band
pub first_outside : {column band left line width height count bits k : ℕ} (c : ℕ)
    → IsCapped column band left line width height → AllFit k left count line bits width height → k < 6
    → bit_at bits k ≡ 1 → 0 < count → first_column column count (capped (6 * band + k)) width height ≡ Some c
    → IsFirstIfAny (PaintsOutside left count line bits width height) (Some (c, capped (6 * band + k)))
first_outside {column} {band} {left} {line} {width} {height} {count} {bits} {k} c w fit six set some h =
    let found = column_before k w
    (subst (IsColumnOf column count (capped (6 * band + k)) width height) h
    (column_is column count (capped (6 * band + k)) width height)) in
    let row : capped (6 * band + k) ≡ capped (6 * line + k) = same_row k w in (
      found.x,
      6 * line + k,
      first_point left count line bits width height k found.x fit six set some found.first,
      ap₂ (λ (a b : ℕ). Some (a, b)) found.is row,
    )

-- a run of no columns paints nothing
pub no_columns_outside : {left count line bits width height x y : ℕ} → count ≡ 0
    → PaintsOutside left count line bits width height x y → ⊥
no_columns_outside {left} {count} {line} {bits} {x} {y} none p =
    let u = lies_under left count line bits x y p.painted in
    let from : left ≤ x = u.from in
    let to : x < left + count = u.to in
    omega arith
