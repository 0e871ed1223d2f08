-- Which groups of columns of a band have pixels of a register.
use Rattle.std.proofs.Common.{◌≡◌, ◌≢◌, ◌==◌, ℕ, zero, suc, ◌+◌, ◌*◌, ◌%◌, ◌/◌, ◌^◌, ◌<◌, ◌≤◌, true}
use Rattle.std.proofs.Common.{List, length, get_or, set, replicate, not, w64, inl, inr, refl, sym, ap, ◌∙◌, arith}
use Rattle.std.specs.Prelude.{nat_lt}
use Rattle.std.specs.Int.{bit_at}
use Rattle.std.specs.Int.Bits.{bit_or}
use Rattle.std.proofs.lemmas.Bool.{and_from, and_parts, cases_eq, eq-eqb, eqb-false, eqb-true, lt-ltb}
use Rattle.std.proofs.lemmas.Bool.{ltb-true, ne_eqb, not-true, not_from_false}
use Rattle.std.proofs.lemmas.List.{get_or-set_other, get_or-set_same, length-set}
use Rattle.std.proofs.lemmas.Nat.Bits.{bit_at-zero, bit_at_set_other, bit_at_set_same}
use Rattle.sixel_model.specs.Pictures.{PictureValue, register_of}
use Rattle.sixel_model.proofs.RunLemmas.{same_test}
use Rattle.sixel_encode.specs.Canon.{column_bits, has_pixel, occurs}
use Rattle.sixel_encode.specs.Columns.{AreGroupsMarked, HasBandGroups}
use Rattle.sixel_encode.proofs.BitLemmas.{column_has}
use Rattle.sixel_encode.proofs.OccurLemmas.{occurs_is, pixel_occurs}
use Rattle.sixel_encode.proofs.RangeLemmas.{InRange, range_any}

-- ---- pixels of a row

bit_kept : (n k g : ℕ) → k < 64 → bit_at n g ≡ 1 → bit_at (bit_or n (1 * 2 ^ k % 2 ^ 64)) g ≡ 1
bit_kept n k g small h = elim (cases_eq g k) [
  | inl same ↦ ap (bit_at (bit_or n (1 * 2 ^ k % 2 ^ 64))) same ∙ bit_at_set_same w64 n k small
  | inr other ↦ bit_at_set_other w64 n k small g other ∙ h
]

-- one pixel
pub marked_pixel : (x n : ℕ) (pixels old : List ℕ) → n ≡ get_or pixels x 0 → n < length old → x / 32 < 64
    → AreGroupsMarked x (x + 1) pixels old (set old n (bit_or (get_or old n 0) (1 * 2 ^ (x / 32) % 2 ^ 64)))
marked_pixel x n pixels old is room small =
    let value = bit_or (get_or old n 0) (1 * 2 ^ (x / 32) % 2 ^ 64) in
    let here : get_or (set old n value) n 0 ≡ value = get_or-set_same old n value 0 room in
    record {
      long = length-set old n value;
      kept = λ register group h. elim (cases_eq register n) [
        | inl same ↦
            ap (λ (r : ℕ). bit_at (get_or (set old n value) r 0) group) same ∙ ap (λ (v : ℕ). bit_at v group) here
            ∙ bit_kept (get_or old n 0) (x / 32) group small
            (ap (λ (r : ℕ). bit_at (get_or old r 0) group) (sym same) ∙ h)
        | inr other ↦ ap (λ (v : ℕ). bit_at v group) (get_or-set_other old n register value 0 other) ∙ h
      ];
      marked = λ y low high.
          let at : y ≡ x = omega arith in
          ap (λ (k : ℕ). bit_at (get_or (set old n value) (get_or pixels k 0) 0) (k / 32)) at
          ∙ ap (λ (r : ℕ). bit_at (get_or (set old n value) r 0) (x / 32)) (sym is)
          ∙ ap (λ (v : ℕ). bit_at v (x / 32)) here
          ∙ bit_at_set_same w64 (get_or old n 0) (x / 32) small;
      only = λ register some. elim (cases_eq register n) [
        | inl same ↦ inr (x, omega arith, omega arith, sym is ∙ sym same)
        | inr other ↦ inl (λ e. some (get_or-set_other old n register value 0 other ∙ e))
      ];
    }

-- ---- rows of a band

-- the band has a pixel with the register
abbrev pub HasSome : PictureValue → ℕ → ℕ → Type 0
HasSome p band register = (x : ℕ) × (k : ℕ) × (x < p.width) × (k < 6) × (has_pixel p band register x k ≡ true)

-- the registers of the first rows are marked
pub record AreRows (p : PictureValue) (band row : ℕ) (marks : List ℕ) : Type 0 where
  pub long : length marks ≡ 256
  pub found : (x k : ℕ) → x < p.width → k < row → 6 * band + k < p.height
      → bit_at (get_or marks (register_of p x (6 * band + k)) 0) (x / 32) ≡ 1
  pub only : (register : ℕ) → get_or marks register 0 ≢ 0 → HasSome p band register

all_zero : (n i : ℕ) → get_or (replicate {A = ℕ} n 0) i 0 ≡ 0
all_zero zero i = refl
all_zero (suc n) zero = refl
all_zero (suc n) (suc i) = all_zero n i

pub rows_none : (p : PictureValue) (band : ℕ) → AreRows p band 0 (replicate 256 0)
rows_none p band = record {
  long = refl;
  found = λ x k lt none. absurd (omega arith);
  only = λ register some. absurd (some (all_zero 256 register));
}

pub rows_more : {p : PictureValue} {band row : ℕ} {pixels old new : List ℕ} → row < 6 → 6 * band + row < p.height
    → length pixels ≡ p.width → ((x : ℕ) → x < p.width → get_or pixels x 0 ≡ register_of p x (6 * band + row))
    → AreGroupsMarked 0 (length pixels) pixels old new → AreRows p band row old → AreRows p band (row + 1) new
rows_more {p} {band} {row} {new} small inside wide same marks before = record {
  long = marks.long ∙ before.long;
  found = λ x k lt less in_picture. elim (cases_eq k row) [
    | inl here ↦
        ap (λ (n : ℕ). bit_at (get_or new (register_of p x (6 * band + n)) 0) (x / 32)) here
        ∙ ap (λ (r : ℕ). bit_at (get_or new r 0) (x / 32)) (sym (same x lt))
        ∙ marks.marked x (omega arith) (omega arith)
    | inr above ↦ marks.kept (register_of p x (6 * band + k)) (x / 32) (before.found x k lt (omega arith) in_picture)
  ];
  only = λ register some. elim (marks.only register some) [
    | inl kept ↦ before.only register kept
    | inr w ↦
        let lt : w.0 < p.width = omega (arith, w.2) in (
          w.0,
          row,
          lt,
          small,
          and_from _ _ (lt-ltb (6 * band + row) p.height inside) (eq-eqb _ _ (sym (same w.0 lt) ∙ w.3)),
        )
  ];
}

pub rows_past : {p : PictureValue} {band row : ℕ} {marks : List ℕ} → p.height ≤ 6 * band + row
    → AreRows p band row marks → AreRows p band (row + 1) marks
rows_past past before = record {
  long = before.long;
  found = λ x k lt less in_picture. before.found x k lt (omega arith) in_picture;
  only = before.only;
}

-- after all rows, the mask of a register has its groups
pub rows_groups : {p : PictureValue} {band : ℕ} (register : ℕ) {marks : List ℕ} → AreRows p band 6 marks
    → HasBandGroups p band register (get_or marks register 0)
rows_groups {p} {band} register {marks} rows x k lt small has =
    let parts = and_parts (nat_lt (6 * band + k) p.height) (register_of p x (6 * band + k) == register) has in
    ap (λ (r : ℕ). bit_at (get_or marks r 0) (x / 32)) (sym (eqb-true _ _ parts.1))
    ∙ rows.found x k lt small (ltb-true (6 * band + k) p.height parts.0)

set_some : (n i : ℕ) → bit_at n i ≡ 1 → n ≢ 0
set_some n i h = λ e.
    let none : bit_at n i ≡ 0 = ap (λ (m : ℕ). bit_at m i) e ∙ bit_at-zero i in
    absurd (omega arith)

-- after all rows, the mask of a register says whether it occurs
pub rows_occur : {p : PictureValue} {band : ℕ} (register : ℕ) {marks : List ℕ} → AreRows p band 6 marks
    → not (get_or marks register 0 == 0) ≡ occurs p band register
rows_occur {p} {band} register {marks} rows =
    same_test (not (get_or marks register 0 == 0)) (occurs p band register)
    (λ some.
    let w = rows.only register (eqb-false (get_or marks register 0) 0 (not-true _ some)) in
    pixel_occurs p band register w.0 w.1 w.2 w.3 w.4)
    (λ here.
    let i : InRange 0 p.width (λ x. not (column_bits p band register x == 0)) =
    range_any p.width 0 _ (sym (occurs_is p band register) ∙ here) in
    let k : InRange 0 6 (has_pixel p band register i.number) =
    range_any 6 0 _ (column_has p band register i.number ∙ i.passes) in
    let under : i.number < 0 + p.width = i.under in
    let row : k.number < 0 + 6 = k.under in
    let set_here = rows_groups register rows i.number k.number (omega arith) (omega arith) k.passes in
    not_from_false _ (ne_eqb _ 0 (set_some _ (i.number / 32) set_here)))
