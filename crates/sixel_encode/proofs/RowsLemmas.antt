-- The rows of a band, and the columns of a register in them.
use Rattle.std.proofs.Common.{◌≡◌, ◌==◌, ℕ, ◌+◌, ◌-◌, ◌*◌, ◌/◌, ◌<◌, ◌≤◌, Bool, false, ◌&&◌, List, drop, length}
use Rattle.std.proofs.Common.{get_or, min, take, inl, inr, refl, sym, ap, ◌∙◌, arith}
use Rattle.std.specs.Prelude.{nat_lt}
use Rattle.std.specs.Int.{bit_at}
use Rattle.std.proofs.Math.Nat.{add-mul, mul_comm, mul-le-mul_right}
use Rattle.std.proofs.lemmas.Bool.{cases_eq, cases_lt, lt-ltb, ne_eqb, not_from_false}
use Rattle.std.proofs.lemmas.Bool.Decides.{nat_tests}
use Rattle.std.proofs.lemmas.List.{get_or-drop, get_or-take, length-drop, length-take}
use Rattle.sixel_model.specs.Pictures.{PictureValue, register_of}
use Rattle.sixel_encode.specs.Canon.{column_bits, has_pixel}
use Rattle.sixel_encode.specs.Columns.{AreRowsOf, HasBandGroups, is_in_row, row_bits}
use Rattle.sixel_encode.proofs.AddedLemmas.{row_missing, row_there}
use Rattle.sixel_encode.proofs.BitLemmas.{column_has}
use Rattle.sixel_encode.proofs.PartedLemmas.{Parted}
use Rattle.sixel_encode.proofs.RangeLemmas.{InRange, range_any}

pub rows_are : {registers : ℕ} {p : PictureValue} (band first end : ℕ) → Parted registers p
    → first ≡ min (6 * band) p.height → end ≡ min (first + 6) p.height
    → AreRowsOf p band (take (end * p.width - first * p.width) (drop (first * p.width) p.registers)) p.width
rows_are {p} band first end parts first_is end_is =
    let w = p.width in
    let some : 1 ≤ w = parts.some_width in
    let all : length p.registers ≡ p.height * w = parts.count ∙ mul_comm w p.height in
    let ordered : first * w ≤ end * w = mul-le-mul_right w (omega arith) in
    let within : end * w ≤ p.height * w = mul-le-mul_right w (omega arith) in
    let rows = take (end * w - first * w) (drop (first * w) p.registers) in
    let long : length rows ≡ end * w - first * w =
    omega (
      arith,
      length-take (end * w - first * w) (drop (first * w) p.registers),
      length-drop (first * w) p.registers,
    ) in
    let here : (k : ℕ) → k < 6 → 6 * band + k < p.height → k * w + w ≤ length rows = λ k small inside.
    let last : (first + (k + 1)) * w ≤ end * w = mul-le-mul_right w (omega arith) in
    let parted : (first + (k + 1)) * w ≡ first * w + (k + 1) * w = add-mul first (k + 1) w in
    let next : (k + 1) * w ≡ k * w + 1 * w = add-mul k 1 w in
    omega arith in
    record {
      wide = refl;
      here = here;
      past = λ k small past.
          let last : end * w ≤ (first + k) * w = mul-le-mul_right w (omega arith) in
          let parted : (first + k) * w ≡ first * w + k * w = add-mul first k w in
          omega arith;
      same = λ x k lt small inside.
          let room : k * w + w ≤ length rows = here k small inside in
          let start : first ≡ 6 * band = omega arith in
          let parted : (6 * band + k) * w ≡ 6 * band * w + k * w = add-mul (6 * band) k w in
          let moved : first * w ≡ 6 * band * w = ap (λ (n : ℕ). n * w) start in
          let place : first * w + (k * w + x) ≡ (6 * band + k) * w + x = omega arith in
          get_or-take (end * w - first * w) (drop (first * w) p.registers) (k * w + x) 0 (omega arith)
          ∙ get_or-drop (first * w) p.registers (k * w + x) 0 ∙ ap (λ (n : ℕ). get_or p.registers n 0) place;
    }

-- ---- the bits of a column

no_pixel : (p : PictureValue) (band register x row : ℕ) → p.height ≤ 6 * band + row
    → has_pixel p band register x row ≡ false
no_pixel p band register x row past =
    let out : nat_lt (6 * band + row) p.height ≡ false = search (arith, nat_tests) in
    ap (λ (t : Bool). t && (register_of p x (6 * band + row) == register)) out

same_pixel : {p : PictureValue} {band : ℕ} (register x k : ℕ) {rows : List ℕ} → AreRowsOf p band rows p.width
    → x < p.width → k < 6 → is_in_row rows p.width register x k ≡ has_pixel p band register x k
same_pixel {p} {band} register x k {rows} are lt small = elim (cases_lt (6 * band + k) p.height) [
  | inl inside ↦
      row_there rows p.width register x k _ (are.here k small inside)
      (ap (λ (r : ℕ). r == register) (are.same x k lt small inside))
      ∙ sym (ap (λ (t : Bool). t && (register_of p x (6 * band + k) == register)) (lt-ltb _ _ inside))
  | inr past ↦
      row_missing rows p.width register x k (are.past k small (omega arith))
      ∙ sym (no_pixel p band register x k (omega arith))
]

pub row_bits_are : {p : PictureValue} {band : ℕ} (register x : ℕ) {rows : List ℕ} → AreRowsOf p band rows p.width
    → x < p.width → row_bits rows p.width register x ≡ column_bits p band register x
unfolding column_bits
row_bits_are register x are lt =
    let same = λ (k : ℕ) (small : k < 6). same_pixel register x k are lt small in
    rw (
      same 0 (omega arith),
      same 1 (omega arith),
      same 2 (omega arith),
      same 3 (omega arith),
      same 4 (omega arith),
      same 5 (omega arith),
    ) refl

-- a column whose group isn't in the mask has no bits
pub column_blank : (p : PictureValue) (band register groups x : ℕ) → HasBandGroups p band register groups
    → x < p.width → bit_at groups (x / 32) ≡ 0 → column_bits p band register x ≡ 0
column_blank p band register groups x marked lt none = elim (cases_eq (column_bits p band register x) 0) [
  | inl blank ↦ blank
  | inr some ↦
      let k : InRange 0 6 (has_pixel p band register x) =
      range_any 6 0 _ (column_has p band register x ∙ not_from_false _ (ne_eqb _ 0 some)) in
      let under : k.number < 0 + 6 = k.under in
      let set : bit_at groups (x / 32) ≡ 1 = marked x k.number lt (omega arith) k.passes in
      absurd (omega arith)
]

-- a row of a whole band is there
pub row_inside : (row width long : ℕ) → row < 6 → 6 * width ≤ long → row * width + width ≤ long
row_inside row width long small whole =
    let last : (row + 1) * width ≤ 6 * width = mul-le-mul_right width (omega arith) in
    let parted : (row + 1) * width ≡ row * width + 1 * width = add-mul row 1 width in
    omega arith
