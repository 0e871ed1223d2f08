-- Finding four equal bytes, many indices at once.
use Rattle.std.proofs.Common.{◌≡◌, ◌≢◌, ◌==◌, ℕ, ◌+◌, ◌-◌, ◌%◌, ◌^◌, ◌<◌, ◌≤◌, Bool, true, false, ◌&&◌, cond}
use Rattle.std.proofs.Common.{List, length, get_or, map, min, replicate, w8, w64, inl, inr, refl, sym, ap, ap₂}
use Rattle.std.proofs.Common.{◌∙◌, Option, Some, None, arith}
use Rattle.std.specs.Int.{bit_at, trailing_zeros}
use Rattle.std.proofs.lemmas.Bool.{cases_eq, cases_lt, ne_eqb}
use Rattle.std.proofs.lemmas.Nat.Bits.{bit_at-trailing_zeros, bit_at-zero}
use Rattle.std.proofs.lemmas.Simd.{bit_mask_l, get_or-chunk, get_or-replicate, get_or-sel_l, get_or-zip2, length-chunk}
use Rattle.std.proofs.lemmas.Simd.{length-replicate, length-sel_l, length-zip2, mask_l-lt, mask_l-mod, tops_compared}
use lib.Lanes.{chunk, mask_l, sel_l, top, zip2}
use Rattle.sixel_plane.specs.Lanes.{IsFirst, IsFirstAt, NonePasses}
use Rattle.sixel_encode.specs.Columns.{ArePairs, NoFour, are_four}
use Rattle.sixel_encode.proofs.MaskLemmas.{none_left}

-- the first byte that passes in a group, if none before the group does
pub first_behind : {test : ℕ → Bool} (from : ℕ) {at end : ℕ} (to : ℕ) {bytes : List ℕ} {index : ℕ} → from ≤ at
    → NonePasses test from at bytes → end ≤ to → IsFirstAt test at end bytes index → IsFirstAt test from to bytes index
first_behind from {at} to low none high first = record {
  after = omega (arith, first.after);
  below = omega (arith, first.below);
  passes = first.passes;
  before = λ k after before. elim (cases_lt k at) [
    | inl less ↦ none k after less
    | inr past ↦ first.before k past before
  ];
}

-- the same, if the last group may begin before the bytes that are left
pub last_group : (test : ℕ → Bool) (from at last to end : ℕ) (bytes : List ℕ) (found : Option ℕ) → from ≤ last
    → last ≤ at → NonePasses test from at bytes → end ≡ to → IsFirst test last end bytes found
    → IsFirst test from to bytes found
last_group test from at last to end bytes None low high none same first =
    λ k after before. elim (cases_lt k last) [
      | inl less ↦ none k after (omega arith)
      | inr past ↦ first k past (omega arith)
    ]
last_group test from at last to end bytes (Some index) low high none same first =
    first_behind from to low (λ k after less. none k after (omega arith)) (omega arith) first

-- which lanes of two groups are equal
abbrev pub tests : List ℕ → List ℕ → List Bool
tests v w = map (top 7) (zip2 (λ a b. cond (a == b) 255 0) v w)

tests_are : (v w : List ℕ) → tests v w ≡ zip2 (λ a b. a == b) v w
tests_are v w = tops_compared w8 (λ a b. a == b) v w

length-tests : (v w : List ℕ) → length v ≡ 32 → length w ≡ 32 → length (tests v w) ≡ 32
length-tests v w long wide = ap length (tests_are v w) ∙ length-zip2 (λ (a b : ℕ). a == b) v w (long ∙ sym wide) ∙ long

test_at : (v w : List ℕ) (j : ℕ) → length v ≡ 32 → length w ≡ 32 → j < 32
    → get_or (tests v w) j false ≡ (get_or v j 0 == get_or w j 0)
test_at v w j long wide lt =
    ap (λ (t : List Bool). get_or t j false) (tests_are v w)
    ∙ get_or-zip2 (λ (a b : ℕ). a == b) v w j 0 0 false (omega arith) (omega arith)

-- the length of lanes chosen from a group and zeros
pub length-chosen : (v w chosen : List ℕ) → length v ≡ 32 → length w ≡ 32 → length chosen ≡ 32
    → length (sel_l (tests v w) chosen (replicate 32 0)) ≡ 32
length-chosen v w chosen long wide all =
    let tested = length-tests v w long wide in
    length-sel_l (tests v w) chosen (replicate 32 0) (tested ∙ sym all)
    (tested ∙ sym (length-replicate {A = ℕ} 32 0)) ∙ tested

pub chosen_at : (v w chosen : List ℕ) (j : ℕ) → length v ≡ 32 → length w ≡ 32 → length chosen ≡ 32 → j < 32
    → get_or (sel_l (tests v w) chosen (replicate 32 0)) j 0 ≡ cond (get_or v j 0 == get_or w j 0) (get_or chosen j 0) 0
chosen_at v w chosen j long wide all lt =
    let tested = length-tests v w long wide in
    let zeros = length-replicate {A = ℕ} 32 0 in
    get_or-sel_l (tests v w) chosen (replicate 32 0) j 0 (omega arith) (omega arith) (omega arith)
    ∙ ap₂ (λ (t : Bool) (z : ℕ). cond t (get_or chosen j 0) z) (test_at v w j long wide lt)
    (get_or-replicate 32 j 0 0 lt)

-- ---- equal neighbours

-- the mask of equal neighbours
pub pairs_are : (at pairs : ℕ) (bytes : List ℕ) → at + 32 < length bytes
    → pairs ≡ mask_l (tests (chunk at 32 bytes) (chunk (at + 1) 32 bytes)) % 2 ^ 64 → ArePairs at bytes pairs
pairs_are at pairs bytes room is j lt =
    let v = chunk at 32 bytes in
    let w = chunk (at + 1) 32 bytes in
    let long : length v ≡ 32 = length-chunk at 32 bytes (omega arith) in
    let wide : length w ≡ 32 = length-chunk (at + 1) 32 bytes (omega arith) in
    let next : at + 1 + j ≡ at + j + 1 = omega arith in
    ap (λ (n : ℕ). bit_at n j) (is ∙ mask_l-mod (tests v w) 64 (omega (arith, length-tests v w long wide)))
    ∙ bit_mask_l (tests v w) j
    ∙ ap (λ (t : Bool). cond t 1 0)
    (test_at v w j long wide lt
    ∙ ap₂ (λ (a b : ℕ). a == b) (get_or-chunk at 32 bytes j 0 lt)
    (get_or-chunk (at + 1) 32 bytes j 0 lt ∙ ap (λ (k : ℕ). get_or bytes k 0) next))

pub pairs_few : (at pairs : ℕ) (bytes : List ℕ) → at + 32 < length bytes
    → pairs ≡ mask_l (tests (chunk at 32 bytes) (chunk (at + 1) 32 bytes)) % 2 ^ 64 → pairs < 2 ^ 32
pairs_few at pairs bytes room is =
    let v = chunk at 32 bytes in
    let w = chunk (at + 1) 32 bytes in
    let long : length v ≡ 32 = length-chunk at 32 bytes (omega arith) in
    let wide : length w ≡ 32 = length-chunk (at + 1) 32 bytes (omega arith) in
    let same = is ∙ mask_l-mod (tests v w) 64 (omega (arith, length-tests v w long wide)) in
    let size : length (tests v w) ≡ 32 = length-tests v w long wide in
    let most : mask_l (tests v w) < 2 ^ length (tests v w) = mask_l-lt (tests v w) in
    rw same (rw size at most)

-- the mask has the columns at which three pairs begin
abbrev pub AreBegun : ℕ → ℕ → Type 0
AreBegun pairs begun =
    (j : ℕ) → bit_at begun j ≡ min (min (bit_at pairs j) (bit_at pairs (1 + j))) (bit_at pairs (2 + j))

three_bits : (s t u : Bool) → min (min (cond s 1 0) (cond t 1 0)) (cond u 1 0) ≡ cond (s && (t && u)) 1 0
three_bits true true true = refl
three_bits true true false = refl
three_bits true false true = refl
three_bits true false false = refl
three_bits false true true = refl
three_bits false true false = refl
three_bits false false true = refl
three_bits false false false = refl

-- a chain of equal neighbours
chain : (a b c d : ℕ) → ((a == b) && ((b == c) && (c == d))) ≡ ((a == b) && ((a == c) && (a == d)))
chain a b c d = elim (cases_eq a b) [
  | inr other ↦ rw (ne_eqb a b other) refl
  | inl same ↦ rw same (elim (cases_eq b c) [
    | inr other ↦ rw (ne_eqb b c other) refl
    | inl equal ↦ rw equal refl
  ])
]

begun_at : (at j pairs begun : ℕ) (bytes : List ℕ) → ArePairs at bytes pairs → AreBegun pairs begun → j < 30
    → bit_at begun j ≡ cond (are_four bytes (at + j)) 1 0
begun_at at j pairs begun bytes are is lt =
    let one : at + (1 + j) ≡ at + j + 1 = omega arith in
    let two : at + (2 + j) ≡ at + j + 2 = omega arith in
    let one_more : at + j + 1 + 1 ≡ at + j + 2 = omega arith in
    let two_more : at + j + 2 + 1 ≡ at + j + 3 = omega arith in
    let a = get_or bytes (at + j) 0 in
    let b = get_or bytes (at + j + 1) 0 in
    let c = get_or bytes (at + j + 2) 0 in
    let d = get_or bytes (at + j + 3) 0 in
    let second : bit_at pairs (1 + j) ≡ cond (b == c) 1 0 = rw (one, one_more) at (are (1 + j) (omega arith)) in
    let third : bit_at pairs (2 + j) ≡ cond (c == d) 1 0 = rw (two, two_more) at (are (2 + j) (omega arith)) in
    is j
    ∙ ap₂ min (ap₂ min (are j (omega arith)) second) third
    ∙ three_bits (a == b) (b == c) (c == d)
    ∙ ap (λ (t : Bool). cond t 1 0) (chain a b c d)

-- no repeat begins behind the last pair but two
begun_small : (pairs begun r : ℕ) → pairs < 2 ^ 32 → AreBegun pairs begun → bit_at begun r ≡ 1 → r < 30
begun_small pairs begun r few are set = elim (cases_lt r 30) [
  | inl less ↦ less
  | inr past ↦
      let none : bit_at pairs (2 + r) ≡ 0 = none_left pairs 32 (2 + r) (omega arith) (omega arith) in
      let is = are r in
      absurd (omega arith)
]

clear_four : (t : Bool) → ◌≡◌ {A = ℕ} (cond t 1 0) 0 → t ≡ false
clear_four true e = absurd (omega arith)
clear_four false e = refl

set_four : (t : Bool) → ◌≡◌ {A = ℕ} (cond t 1 0) 1 → t ≡ true
set_four true e = refl
set_four false e = absurd (omega arith)

-- the columns before one whose lower bits are clear
singles_below : (at r pairs begun : ℕ) (bytes : List ℕ) → ArePairs at bytes pairs → AreBegun pairs begun → r ≤ 30
    → ((i : ℕ) → i < r → bit_at begun i ≡ 0) → NoFour at (at + r) bytes
singles_below at r pairs begun bytes are is most clear k low high room =
    let back : at + (k - at) ≡ k = omega arith in
    let inner : k - at < r = omega arith in
    ap (are_four bytes) (sym back)
    ∙ clear_four (are_four bytes (at + (k - at)))
    (sym (begun_at at (k - at) pairs begun bytes are is (omega arith)) ∙ clear (k - at) inner)

-- no bit is set
pub begun_none : (at pairs begun : ℕ) (bytes : List ℕ) → ArePairs at bytes pairs → begun ≡ 0 → AreBegun pairs begun
    → NoFour at (at + 30) bytes
begun_none at pairs begun bytes are none is =
    singles_below at 30 pairs begun bytes are is (omega arith) (λ i lt. ap (λ (n : ℕ). bit_at n i) none ∙ bit_at-zero i)

-- the lowest set bit
pub begun_first : (at pairs begun : ℕ) (bytes : List ℕ) → ArePairs at bytes pairs → pairs < 2 ^ 32 → begun ≢ 0
    → begun < 2 ^ 64 → AreBegun pairs begun
    → (trailing_zeros w64 begun < 30) × NoFour at (at + trailing_zeros w64 begun) bytes
    × (are_four bytes (at + trailing_zeros w64 begun) ≡ true)
begun_first at pairs begun bytes are few some most is =
    let lowest = bit_at-trailing_zeros w64 begun (omega arith) most in
    let small = begun_small pairs begun (trailing_zeros w64 begun) few is lowest.1 in (
      small,
      singles_below at (trailing_zeros w64 begun) pairs begun bytes are is (omega arith) lowest.2,
      set_four _ (sym (begun_at at (trailing_zeros w64 begun) pairs begun bytes are is small) ∙ lowest.1),
    )
