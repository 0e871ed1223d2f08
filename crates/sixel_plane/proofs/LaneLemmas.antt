-- Runs of bytes, and groups of them handled at once.
use Rattle.std.proofs.Common.{◌≡◌, ◌==◌, ℕ, ◌+◌, ◌*◌, ◌%◌, ◌^◌, ◌<◌, ◌≤◌, Bool, not, cond, List}
use Rattle.std.proofs.Common.{length, get_or, map, replicate, w8, inl, inr, ◌≢◌, sym, ap, ap₂, ◌∙◌, arith, ◌-◌}
use Rattle.std.specs.Prelude.{◌&&◌, nat_le, nat_lt}
use Rattle.std.specs.Int.{bit_at}
use Rattle.std.specs.Int.Bits.{bit_and, bit_or}
use Rattle.std.specs.List.{prefix_len}
use Rattle.std.proofs.lemmas.Bool.Decides.{nat_tests}
use Rattle.std.proofs.lemmas.Bool.{cases_lt, cases_eq, eq-eqb, ne_eqb}
use Rattle.std.proofs.lemmas.List.{length-map}
use Rattle.std.proofs.lemmas.Nat.Bits.{and_pow, bit_at-lt, bit_at_and}
use Rattle.std.proofs.lemmas.Nat.{one_shl, pow_pos}
use Rattle.std.proofs.lemmas.Simd.{length-put_chunk, get_or-put_chunk_below, get_or-put_chunk_at}
use Rattle.std.proofs.lemmas.Simd.{get_or-put_chunk_above, length-replicate, get_or-replicate, length-chunk}
use Rattle.std.proofs.lemmas.Simd.{get_or-chunk, length-zip2, get_or-zip2, zip2_splat, bitmask_splat, map-map}
use Rattle.std.proofs.lemmas.Simd.{leading_from_mask_l, trailing_mask_l, run_in_chunk_fails, run_in_chunk_stops}
use lib.Count.{count_trailing_zeros}
use lib.Lanes.{chunk, put_chunk, mask_l, top, zip2}
use Rattle.sixel_plane.specs.Lanes.{AreChanged, NonePasses, IsFirstAt}

-- storing a group changes its bytes and no others
pub stored_group : (at n : ℕ) (g : ℕ → ℕ) (old group : List ℕ) → length group ≡ n → at + n ≤ length old
    → ((j : ℕ) → j < n → get_or group j 0 ≡ g (at + j)) → (i : ℕ)
    → get_or (put_chunk at old group) i 0 ≡ cond (nat_le at i && nat_lt i (at + n)) (g i) (get_or old i 0)
stored_group at n g old group long room each i = elim (cases_lt i at) [
  | inl below ↦
      let kept : get_or (put_chunk at old group) i 0 ≡ get_or old i 0 =
      get_or-put_chunk_below at old group i 0 below in
      grind (arith, nat_tests)
  | inr from ↦ elim (cases_lt i (at + n)) [
    | inl to ↦
        let back : at + (i - at) ≡ i = omega arith in
        let inner : i - at < length group = omega (arith, long) in
        let few : i - at < n = omega arith in
        let fits : at + length group ≤ length old = omega (arith, long) in
        let written : get_or (put_chunk at old group) i 0 ≡ g i =
        ap (λ k. get_or (put_chunk at old group) k 0) (sym back)
        ∙ get_or-put_chunk_at at old group (i - at) 0 inner fits ∙ each (i - at) few ∙ ap g back in
        grind (arith, nat_tests)
    | inr above ↦
        let past : at + length group ≤ i = omega (arith, long) in
        let kept : get_or (put_chunk at old group) i 0 ≡ get_or old i 0 =
        get_or-put_chunk_above at old group i 0 past in
        grind (arith, nat_tests)
  ]
]

changed_group : (at n : ℕ) (f : ℕ → ℕ) (old group : List ℕ) → length group ≡ n → at + n ≤ length old
    → ((j : ℕ) → j < n → get_or group j 0 ≡ f (get_or old (at + j) 0))
    → AreChanged at (at + n) f old (put_chunk at old group)
changed_group at n f old group long room each = record {
  long = length-put_chunk at old group;
  changed = λ i lt. stored_group at n (λ k. f (get_or old k 0)) old group long room each i;
}

-- filling a group
pub filled_group : (at value : ℕ) (old : List ℕ) → at + 32 ≤ length old
    → AreChanged at (at + 32) (λ b. value) old (put_chunk at old (replicate 32 value))
filled_group at value old room =
    changed_group at 32 (λ b. value) old (replicate 32 value) (length-replicate 32 value) room
    (λ j lt. get_or-replicate 32 j value 0 lt)

-- setting bits in a group
pub or_group : (at bits : ℕ) (old : List ℕ) → at + 32 ≤ length old
    → AreChanged at (at + 32) (λ b. bit_or b bits) old
    (put_chunk at old (zip2 bit_or (chunk at 32 old) (replicate 32 bits)))
or_group at bits old room =
    let loaded : length (chunk at 32 old) ≡ 32 = length-chunk at 32 old room in
    let splat : length (replicate 32 bits) ≡ 32 = length-replicate 32 bits in
    let long : length (zip2 bit_or (chunk at 32 old) (replicate 32 bits)) ≡ 32 =
    length-zip2 bit_or (chunk at 32 old) (replicate 32 bits) (loaded ∙ sym splat) ∙ loaded in
    changed_group at 32 (λ b. bit_or b bits) old (zip2 bit_or (chunk at 32 old) (replicate 32 bits)) long room
    (λ j lt. get_or-zip2 bit_or (chunk at 32 old) (replicate 32 bits) j 0 0 0 (omega arith) (omega arith)
    ∙ ap₂ bit_or (get_or-chunk at 32 old j 0 lt) (get_or-replicate 32 j bits 0 lt))

-- ---- the first byte without the bit

-- a byte lacks a bit exactly if masking the bit gives 0
pub no_bit : (bit b : ℕ) → bit < 8 → (bit_and b (1 * 2 ^ bit % 256) == 0) ≡ (bit_at b bit == 0)
no_bit bit b small =
    let alone : 1 * 2 ^ bit % 256 ≡ 2 ^ bit = one_shl bit 8 small in
    ap (λ m. bit_and b m == 0) alone ∙ ap (λ n. n == 0) (and_pow b bit)
    ∙ elim (cases_eq (bit_at b bit) 0) [
      | inl none ↦
          let nothing : bit_at b bit * 2 ^ bit ≡ 0 = ap (λ n. n * 2 ^ bit) none ∙ omega arith in
          eq-eqb (bit_at b bit * 2 ^ bit) 0 nothing ∙ sym (eq-eqb (bit_at b bit) 0 none)
      | inr some ↦
          let one : bit_at b bit ≡ 1 = omega (arith, bit_at-lt b bit) in
          let kept : bit_at b bit * 2 ^ bit ≡ 1 * 2 ^ bit = ap (λ n. n * 2 ^ bit) one in
          let product : bit_at b bit * 2 ^ bit ≢ 0 = λ none. absurd (omega (arith, kept, pow_pos bit)) in
          ne_eqb (bit_at b bit * 2 ^ bit) 0 product ∙ sym (ne_eqb (bit_at b bit) 0 some)
    ]

-- the mask of the lanes that lack the bit
pub lanes_without : (bit : ℕ) (v : List ℕ) → bit < 8 → length v ≡ 32
    → mask_l (map (top 7) (zip2 (λ a b. cond (a == b) 255 0)
    (zip2 bit_and v (replicate 32 (1 * 2 ^ bit % 256))) (replicate 32 0))) % 2 ^ 64
    ≡ mask_l (map (λ b. bit_at b bit == 0) v)
lanes_without bit v small long =
    let under : ℕ → ℕ = λ b. bit_and b (1 * 2 ^ bit % 256) in
    let splat : zip2 bit_and v (replicate 32 (1 * 2 ^ bit % 256)) ≡ map under v =
    zip2_splat bit_and v 32 (1 * 2 ^ bit % 256) long in
    let width : length (map under v) ≡ 32 = length-map v under ∙ long in
    ap (λ l. mask_l (map (top 7) (zip2 (λ a b. cond (a == b) 255 0) l (replicate 32 0))) % 2 ^ 64) splat
    ∙ bitmask_splat w8 (λ a b. a == b) (map under v) 32 0 width (omega arith)
    ∙ ap mask_l (map-map (λ b. b == 0) under v)
    ∙ (λ i. mask_l (map (λ b. no_bit bit b small i) v))

-- no lane passes a test
pub none_in_lanes : (test : ℕ → Bool) (v : List ℕ) (m : ℕ) → length v ≡ 32 → m ≡ mask_l (map test v) → m ≡ 0
    → 32 ≡ prefix_len (λ b. not (test b)) v
none_in_lanes test v m long same none = sym (leading_from_mask_l test v (sym same ∙ none) ∙ long)

-- the first lane that passes the test
pub first_in_lanes : (test : ℕ → Bool) (v : List ℕ) (m : ℕ) → length v ≡ 32 → m ≡ mask_l (map test v) → m ≢ 0
    → count_trailing_zeros 64 m ≡ prefix_len (λ b. not (test b)) v
first_in_lanes test v m long same some =
    ap (count_trailing_zeros 64) same ∙ trailing_mask_l test 64 v (omega arith) (omega arith)

-- a group in which no byte passes
pub none_in_group : (test : ℕ → Bool) (at run : ℕ) (bytes : List ℕ) → at + 32 ≤ length bytes
    → run ≡ prefix_len (λ b. not (test b)) (chunk at 32 bytes) → 32 ≤ run → NonePasses test at (at + 32) bytes
none_in_group test at run bytes room counted whole k low high =
    run_in_chunk_fails test bytes at 32 run 0 room counted k low (omega arith)

-- a group in which one does
pub first_in_group : (test : ℕ → Bool) (at run : ℕ) (bytes : List ℕ) → at + 32 ≤ length bytes
    → run ≡ prefix_len (λ b. not (test b)) (chunk at 32 bytes) → run < 32
    → IsFirstAt test at (at + 32) bytes (at + run)
first_in_group test at run bytes room counted short = record {
  after = omega arith;
  below = omega arith;
  passes = run_in_chunk_stops test bytes at 32 run 0 room counted short;
  before = run_in_chunk_fails test bytes at 32 run 0 room counted;
}

-- ---- the bits set in every byte

-- the bits common to n bytes and to one more
pub both_bits : (common : ℕ) (bytes : List ℕ) (n i k : ℕ)
    → ((j m : ℕ) → j < n → bit_at common m ≡ 1 → bit_at (get_or bytes j 0) m ≡ 1) → i < n + 1
    → bit_at (bit_and common (get_or bytes n 0)) k ≡ 1 → bit_at (get_or bytes i 0) k ≡ 1
both_bits common bytes n i k before lt set =
    let byte : ℕ = get_or bytes n 0 in
    let both = bit_at_and common byte k in
    let small = bit_at-lt common k in
    let few = bit_at-lt byte k in
    elim (cases_lt i n) [
      | inl low ↦ before i k low (omega (arith, both, set, small))
      | inr last ↦
          let here : i ≡ n = omega (arith, last, lt) in
          ap (λ j. bit_at (get_or bytes j 0) k) here ∙ omega (arith, both, set, few)
    ]
