-- The bits of columns where gaps end.
use Rattle.std.proofs.Common.{◌≡◌, ◌≢◌, ◌==◌, ℕ, zero, suc, ◌+◌, ◌-◌, ◌*◌, ◌%◌, ◌/◌, ◌^◌, ◌<◌, ◌≤◌, Bool, true, false}
use Rattle.std.proofs.Common.{◌&&◌, List, length, map, max, replicate, cond, w8, w64, inl, inr, refl, sym, ap, ap₂, ◌∙◌}
use Rattle.std.proofs.Common.{arith, bit_or}
use Rattle.std.specs.Prelude.{nat_le, slice_index, if◌then◌else◌}
use Rattle.std.specs.Int.{bit_at}
use Rattle.std.proofs.Math.Bool.{and-false}
use Rattle.std.proofs.lemmas.Bool.{and_from, and_parts, cases_lt, eq-eqb, eqb-true, le-leb, leb-true, lt-leb, ne_eqb}
use Rattle.std.proofs.lemmas.List.{get_or-map, length-map}
use Rattle.std.proofs.lemmas.Nat.Bits.{bit_at-lt, bit_at-zero, bit_at_above}
use Rattle.std.proofs.lemmas.Nat.Bits.{bit_at_cat_high, bit_at_cat_low, bit_at_not, bit_at_or}
use Rattle.std.proofs.lemmas.Simd.{bit_mask_l, bitmask_splat, get_or-chunk, length-chunk, mask_l-lt}
use lib.Lanes.{chunk, mask_l, top, zip2}
use Rattle.sixel_encode.specs.Gaps.{AreBlanks, AreBlanksFrom, AreEndBits, IsGapEnd}
use Rattle.sixel_encode.proofs.MaskLemmas.{bit_shifted}

-- ---- blank columns

lanes_blank : (at bits : ℕ) (bytes : List ℕ) → at + 32 ≤ length bytes
    → bits ≡ mask_l (map (top 7) (zip2 (λ a b. cond (a == b) 255 0) (chunk at 32 bytes) (replicate 32 63))) % 2 ^ 64
    → bits ≡ mask_l (map (λ x. x == 63) (chunk at 32 bytes))
lanes_blank at bits bytes room is =
    is ∙ bitmask_splat w8 (λ a b. a == b) (chunk at 32 bytes) 32 63 (length-chunk at 32 bytes room) (omega arith)

pub blanks_few : (at bits : ℕ) (bytes : List ℕ) → at + 32 ≤ length bytes
    → bits ≡ mask_l (map (top 7) (zip2 (λ a b. cond (a == b) 255 0) (chunk at 32 bytes) (replicate 32 63))) % 2 ^ 64
    → bits < 2 ^ 32
blanks_few at bits bytes room is =
    let ms = map (λ x. x == 63) (chunk at 32 bytes) in
    let long : length ms ≡ 32 = length-map (chunk at 32 bytes) (λ (x : ℕ). x == 63) ∙ length-chunk at 32 bytes room in
    rw (lanes_blank at bits bytes room is) (rw long at (mask_l-lt ms))

pub blanks_are : (at bits : ℕ) (bytes : List ℕ) → at + 32 ≤ length bytes
    → bits ≡ mask_l (map (top 7) (zip2 (λ a b. cond (a == b) 255 0) (chunk at 32 bytes) (replicate 32 63))) % 2 ^ 64
    → AreBlanks at bytes bits
blanks_are at bits bytes room is j lt =
    let v = chunk at 32 bytes in
    let long : length v ≡ 32 = length-chunk at 32 bytes room in
    ap (λ (n : ℕ). bit_at n j) (lanes_blank at bits bytes room is)
    ∙ bit_mask_l (map (λ x. x == 63) v) j
    ∙ ap (λ (t : Bool). cond t 1 0)
    (get_or-map (λ (x : ℕ). x == 63) v j 0 false (omega (arith, long, lt))
    ∙ ap (λ (x : ℕ). x == 63) (get_or-chunk at 32 bytes j 0 lt))

-- a mask moved up by four
moved_low : (n i : ℕ) → n < 2 ^ 32 → i < 4 → bit_at (n * 16 % 2 ^ 64) i ≡ 0
moved_low n i few low =
    let same : n * 16 % 2 ^ 64 ≡ n * 2 ^ 4 + 0 = omega arith in
    ap (λ (m : ℕ). bit_at m i) same ∙ bit_at_cat_low n 4 0 i low ∙ bit_at-zero i

moved_high : (n i : ℕ) → n < 2 ^ 32 → 4 ≤ i → bit_at (n * 16 % 2 ^ 64) i ≡ bit_at n (i - 4)
moved_high n i few high =
    let same : n * 16 % 2 ^ 64 ≡ n * 2 ^ 4 + 0 = omega arith in
    ap (λ (m : ℕ). bit_at m i) same ∙ bit_at_cat_high n 4 0 i (omega arith) high

-- the columns from the first on
pub blanks_first : (at own : ℕ) (bytes : List ℕ) → at ≡ 0 → own < 2 ^ 32 → AreBlanks at bytes own
    → AreBlanksFrom at bytes (own * 16 % 2 ^ 64)
blanks_first at own bytes first few are i lt = elim (cases_lt i 4) [
  | inl low ↦
      let none : nat_le 4 (at + i) ≡ false = lt-leb 4 (at + i) (omega arith) in
      moved_low own i few low
      ∙ sym (ap (λ (t : Bool). if t && (slice_index bytes (at + i - 4) == 63) then 1 else 0) none)
  | inr high ↦
      let there : nat_le 4 (at + i) ≡ true = le-leb 4 (at + i) (omega arith) in
      let place : at + (i - 4) ≡ at + i - 4 = omega arith in
      moved_high own i few high ∙ are (i - 4) (omega arith)
      ∙ ap (λ (k : ℕ). if slice_index bytes k == 63 then 1 else 0) place
      ∙ sym (ap (λ (t : Bool). if t && (slice_index bytes (at + i - 4) == 63) then 1 else 0) there)
]

blank_before : (at before i : ℕ) (bytes : List ℕ) → 4 ≤ at → AreBlanks (at - 4) bytes before → i < 32
    → bit_at before i ≡ (if slice_index bytes (at + i - 4) == 63 then 1 else 0)
blank_before at before i bytes far are lt =
    let place : at - 4 + i ≡ at + i - 4 = omega arith in
    are i lt ∙ ap (λ (k : ℕ). if slice_index bytes k == 63 then 1 else 0) place

same_twice : (a b v : ℕ) → a ≡ v → b ≡ v → max a b ≡ v
same_twice a b v e₁ e₂ = omega (arith, e₁, e₂)

pub blanks_later : (at own before : ℕ) (bytes : List ℕ) → 4 ≤ at → own < 2 ^ 32 → before < 2 ^ 32
    → AreBlanks at bytes own → AreBlanks (at - 4) bytes before
    → AreBlanksFrom at bytes (bit_or (own * 16 % 2 ^ 64) before)
blanks_later at own before bytes far few₁ few₂ are₁ are₂ i lt =
    let v : ℕ = if slice_index bytes (at + i - 4) == 63 then 1 else 0 in
    let there : nat_le 4 (at + i) ≡ true = le-leb 4 (at + i) (omega arith) in
    let whole : bit_at (bit_or (own * 16 % 2 ^ 64) before) i ≡ v =
    bit_at_or (own * 16 % 2 ^ 64) before i ∙ elim (cases_lt i 4) [
      | inl low ↦
          let a = moved_low own i few₁ low in
          let b = blank_before at before i bytes far are₂ (omega arith) in
          ap₂ max a b ∙ omega arith
      | inr high ↦
          let place : at + (i - 4) ≡ at + i - 4 = omega arith in
          let a : bit_at (own * 16 % 2 ^ 64) i ≡ v =
          moved_high own i few₁ high ∙ are₁ (i - 4) (omega arith)
          ∙ ap (λ (k : ℕ). if slice_index bytes k == 63 then 1 else 0) place in
          elim (cases_lt i 32) [
            | inl inner ↦ same_twice _ _ v a (blank_before at before i bytes far are₂ inner)
            | inr past ↦ ap₂ max a (bit_at_above before 32 i few₂ past) ∙ omega arith
          ]
    ] in
    whole ∙ sym (ap (λ (t : Bool). if t && (slice_index bytes (at + i - 4) == 63) then 1 else 0) there)

-- ---- the ends among them

-- the mask has the columns whose four bits before are set, and whose own isn't
abbrev pub AreEndsOf : ℕ → ℕ → Type 0
AreEndsOf blank bits = (j : ℕ) → j < 32
    → (bit_at bits j ≡ 1 → (1 ≤ bit_at blank j) × (1 ≤ bit_at blank (1 + j)) × (1 ≤ bit_at blank (2 + j))
    × (1 ≤ bit_at blank (3 + j)) × (bit_at blank (4 + j) ≡ 0))
    × (bit_at blank j ≡ 1 → bit_at blank (1 + j) ≡ 1 → bit_at blank (2 + j) ≡ 1 → bit_at blank (3 + j) ≡ 1
    → bit_at blank (4 + j) ≡ 0 → bit_at bits j ≡ 1)

-- the bits that are clear
pub bit_turned : (blank j : ℕ) → blank < 2 ^ 36 → j < 32
    → bit_at (2 ^ 64 - 1 - blank / 2 ^ 4) j ≡ 1 - bit_at blank (4 + j)
bit_turned blank j few lt =
    bit_at_not w64 (blank / 2 ^ 4) j (omega arith) (omega arith) ∙ ap (λ (n : ℕ). 1 - n) (bit_shifted blank 4 j)

one_true : (t : Bool) → ◌≡◌ {A = ℕ} (if t then 1 else 0) 1 → t ≡ true
one_true true e = refl
one_true false e = absurd (omega (arith, e))

zero_false : (t : Bool) → ◌≡◌ {A = ℕ} (if t then 1 else 0) 0 → t ≡ false
zero_false true e = absurd (omega (arith, e))
zero_false false e = refl

-- the four bits before column at + j
four_set : (blank j : ℕ) → bit_at blank j ≡ 1 → bit_at blank (1 + j) ≡ 1 → bit_at blank (2 + j) ≡ 1
    → bit_at blank (3 + j) ≡ 1 → (m : ℕ) → m < 4 → bit_at blank (m + j) ≡ 1
four_set blank j a b c d zero lt = ap (bit_at blank) (omega arith) ∙ a
four_set blank j a b c d (suc zero) lt = b
four_set blank j a b c d (suc (suc zero)) lt = c
four_set blank j a b c d (suc (suc (suc zero))) lt = d
four_set blank j a b c d (suc (suc (suc (suc m)))) lt = absurd (omega (arith, lt))

set_is_end : (at blank j : ℕ) (bytes : List ℕ) → at + 32 ≤ length bytes → j < 32 → AreBlanksFrom at bytes blank
    → bit_at blank j ≡ 1 → bit_at blank (1 + j) ≡ 1 → bit_at blank (2 + j) ≡ 1 → bit_at blank (3 + j) ≡ 1
    → bit_at blank (4 + j) ≡ 0 → IsGapEnd bytes (at + j)
set_is_end at blank j bytes room lt are a b c d e =
    let first = and_parts (nat_le 4 (at + j)) (slice_index bytes (at + j - 4) == 63)
    (one_true _ (sym (are j (omega arith)) ∙ a)) in
    let four : 4 ≤ at + j = leb-true 4 (at + j) first.0 in
    let there : nat_le 4 (at + (4 + j)) ≡ true = le-leb 4 (at + (4 + j)) (omega arith) in
    let last = zero_false _ (sym (are (4 + j) (omega arith)) ∙ e) in
    let place : at + (4 + j) - 4 ≡ at + j = omega arith in
    record {
      after = four;
      within = omega arith;
      ink = λ is.
          let same : (slice_index bytes (at + (4 + j) - 4) == 63) ≡ true =
          ap (λ (k : ℕ). slice_index bytes k == 63) place ∙ eq-eqb _ _ is in
          let wrong : true ≡ false = sym (and_from _ _ there same) ∙ last in
          cc wrong;
      blank = λ k low high.
          let m = k + 4 - (at + j) in
          let set : bit_at blank (m + j) ≡ 1 = four_set blank j a b c d m (omega arith) in
          let parts = and_parts (nat_le 4 (at + (m + j))) (slice_index bytes (at + (m + j) - 4) == 63)
          (one_true _ (sym (are (m + j) (omega arith)) ∙ set)) in
          let its : at + (m + j) - 4 ≡ k = omega arith in
          ap (λ (n : ℕ). slice_index bytes n) (sym its) ∙ eqb-true _ _ parts.1;
    }

-- a blank column's bit
blank_is_set : (at blank i : ℕ) (bytes : List ℕ) → AreBlanksFrom at bytes blank → i < 36 → 4 ≤ at + i
    → slice_index bytes (at + i - 4) ≡ 63 → bit_at blank i ≡ 1
blank_is_set at blank i bytes are lt far is =
    are i lt ∙ ap (λ (t : Bool). if t then 1 else 0) (and_from _ _ (le-leb 4 (at + i) far) (eq-eqb _ _ is))

ink_is_clear : (at blank i : ℕ) (bytes : List ℕ) → AreBlanksFrom at bytes blank → i < 36
    → slice_index bytes (at + i - 4) ≢ 63 → bit_at blank i ≡ 0
ink_is_clear at blank i bytes are lt other =
    are i lt ∙ ap (λ (t : Bool). if nat_le 4 (at + i) && t then 1 else 0) (ne_eqb _ 63 other)
    ∙ ap (λ (t : Bool). if t then 1 else 0) (and-false (nat_le 4 (at + i)))

pub ends_are : (at blank bits : ℕ) (bytes : List ℕ) → at + 32 ≤ length bytes → AreBlanksFrom at bytes blank
    → AreEndsOf blank bits → AreEndBits at bytes bits
ends_are at blank bits bytes room are each j lt =
    let is = each j lt in
    let l₀ = bit_at-lt blank j in
    let l₁ = bit_at-lt blank (1 + j) in
    let l₂ = bit_at-lt blank (2 + j) in
    let l₃ = bit_at-lt blank (3 + j) in (
      λ set.
          let all = is.0 set in
          set_is_end at blank j bytes room lt are (omega (arith, all.0, l₀)) (omega (arith, all.1, l₁))
          (omega (arith, all.2, l₂)) (omega (arith, all.3, l₃)) all.4,
      λ e.
          let one : (m : ℕ) → m < 4 → bit_at blank (m + j) ≡ 1 =
          λ m less. blank_is_set at blank (m + j) bytes are (omega arith) (omega (arith, e.after))
          (e.blank (at + (m + j) - 4) (omega (arith, e.after)) (omega (arith, e.after, less))) in
          let place : at + (4 + j) - 4 ≡ at + j = omega arith in
          let none : bit_at blank (4 + j) ≡ 0 = ink_is_clear at blank (4 + j) bytes are (omega arith)
          (λ ink. e.ink (ap (λ (n : ℕ). slice_index bytes n) (sym place) ∙ ink)) in
          let here : 0 + j ≡ j = omega arith in
          is.1 (ap (bit_at blank) (sym here) ∙ one 0 (omega arith)) (one 1 (omega arith)) (one 2 (omega arith))
          (one 3 (omega arith)) none,
    )
