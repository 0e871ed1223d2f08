-- Runs of data bytes, and groups of bytes tested at once.
use Rattle.std.proofs.Common.{◌≡◌, ◌≢◌, ℕ, ◌+◌, ◌-◌, ◌%◌, ◌^◌, ◌<◌, ◌≤◌, Bool, true, false, not, cond, List, length}
use Rattle.std.proofs.Common.{get_or, map, replicate, w8, inl, inr, leb, sym, ap, ◌∙◌, arith, Fits}
use Rattle.std.specs.List.{prefix_len}
use Rattle.std.proofs.lemmas.Bool.Decides.{nat_tests}
use Rattle.std.proofs.lemmas.Bool.{cases_lt}
use Rattle.std.proofs.lemmas.List.{length-map}
use Rattle.std.proofs.lemmas.Simd.{length-chunk, zip2_splat, zip2_splat_left, tops_compared, mask_l-mod}
use Rattle.std.proofs.lemmas.Simd.{leading_from_mask_l, trailing_mask_l, map-map, run_in_chunk_le}
use Rattle.std.proofs.lemmas.Simd.{run_in_chunk_fails, run_in_chunk_stops}
use lib.Count.{count_trailing_zeros}
use lib.Lanes.{chunk, mask_l, top, zip2}
use Rattle.sixel_grammar.specs.Bytes.{is_data}
use Rattle.sixel_grammar.specs.Stretches.{CountsDataBytes}

abbrev pub less : ℕ → ℕ → ℕ
less a b = (a + (256 - b)) % 256

-- the byte isn't one of the 64 from `?` on
abbrev pub outside : ℕ → Bool
outside b = leb 64 (less b 63)

pub inside_is : (b : ℕ) → b < 256 → outside b ≡ false → is_data b ≡ true
inside_is b small h =
    let low : (b + 193) % 256 < 64 = grind (arith, nat_tests) in
    let from : 63 ≤ b = omega arith in
    let to : b ≤ 126 = omega arith in
    grind (arith, nat_tests)

pub outside_is : (b : ℕ) → b < 256 → outside b ≡ true → is_data b ≡ false
outside_is b small h = elim (cases_lt b 63) [
  | inl below ↦ grind (arith, nat_tests)
  | inr from ↦
      let high : 64 ≤ (b + 193) % 256 = grind (arith, nat_tests) in
      let past : 126 < b = omega arith in
      grind (arith, nat_tests)
]

lanes_outside : (v : List ℕ) → length v ≡ 16
    → mask_l (map (top 7)
    (zip2 (λ a b. cond (leb a b) 255 0) (replicate 16 64) (zip2 less v (replicate 16 63)))) % 2 ^ 64
    ≡ mask_l (map outside v)
lanes_outside v long =
    let splat : zip2 less v (replicate 16 63) ≡ map (λ x. less x 63) v = zip2_splat less v 16 63 long in
    let width : length (zip2 less v (replicate 16 63)) ≡ 16 =
    ap length splat ∙ length-map v (λ x. less x 63) ∙ long in
    let few : length (map outside v) ≤ 64 = omega (arith, length-map v outside, long) in
    ap (λ ms. mask_l ms % 2 ^ 64)
    (tops_compared w8 leb (replicate 16 64) (zip2 less v (replicate 16 63))
    ∙ zip2_splat_left leb 64 16 (zip2 less v (replicate 16 63)) width
    ∙ ap (map (leb 64)) splat ∙ map-map (leb 64) (λ x. less x 63) v)
    ∙ mask_l-mod (map outside v) 64 few

-- the data bytes that a group of lanes counts are those of the bytes
data_bytes_there : (from r : ℕ) (bytes : List ℕ) → from + 16 ≤ length bytes → ((k : ℕ) → Fits w8 (get_or bytes k 0))
    → r ≡ prefix_len (λ x. not (outside x)) (chunk from 16 bytes) → CountsDataBytes bytes from 16 r
data_bytes_there from r bytes room fits is = record {
  few = run_in_chunk_le outside bytes from 16 r 0 room is;
  each = λ k low high. inside_is (get_or bytes k 0) (fits k).fits
      (run_in_chunk_fails outside bytes from 16 r 0 room is k low high);
  stops = λ lt. outside_is (get_or bytes (from + r) 0) (fits (from + r)).fits
      (run_in_chunk_stops outside bytes from 16 r 0 room is lt);
}

abbrev pub others : ℕ → List ℕ → ℕ
others from bytes =
    mask_l (map (top 7) (zip2 (λ a b. cond (leb a b) 255 0) (replicate 16 64)
    (zip2 less (chunk from 16 bytes) (replicate 16 63)))) % 2 ^ 64

pub whole_group : (from : ℕ) (bytes : List ℕ) → from + 16 ≤ length bytes → ((k : ℕ) → Fits w8 (get_or bytes k 0))
    → others from bytes ≡ 0 → CountsDataBytes bytes from 16 16
whole_group from bytes room fits none =
    let v = chunk from 16 bytes in
    let long : length v ≡ 16 = length-chunk from 16 bytes room in
    let same = lanes_outside v long in
    data_bytes_there from 16 bytes room fits (sym (leading_from_mask_l outside v (sym same ∙ none) ∙ long))

pub part_of_group : (from : ℕ) (bytes : List ℕ) → from + 16 ≤ length bytes → ((k : ℕ) → Fits w8 (get_or bytes k 0))
    → others from bytes ≢ 0 → CountsDataBytes bytes from 16 (count_trailing_zeros 64 (others from bytes))
part_of_group from bytes room fits some =
    let v = chunk from 16 bytes in
    let long : length v ≡ 16 = length-chunk from 16 bytes room in
    let same = lanes_outside v long in
    data_bytes_there from (count_trailing_zeros 64 (others from bytes)) bytes room fits
    (ap (count_trailing_zeros 64) same ∙ trailing_mask_l outside 64 v (omega arith) (omega arith))
