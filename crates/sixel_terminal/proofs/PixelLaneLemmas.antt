-- The codes of four pixels at once.
use Rattle.std.proofs.Common.{◌≡◌, ◌==◌, ℕ, ◌*◌, ◌^◌, ◌<◌, Bool, false, cond, List, length, get_or, map}
use Rattle.std.proofs.Common.{replicate, w32, inl, inr, ◌≢◌, sym, ap, ap₂, ◌∙◌, arith}
use Rattle.std.specs.Int.{bit_at}
use Rattle.std.specs.Int.Bits.{bit_and}
use Rattle.std.proofs.lemmas.Bool.Decides.{nat_tests}
use Rattle.std.proofs.lemmas.Bool.{cases_eq, eq-eqb, ne_eqb}
use Rattle.std.proofs.lemmas.Nat.Bits.{and_pow, bit_at-lt}
use Rattle.std.proofs.lemmas.Nat.{pow_pos}
use Rattle.std.proofs.lemmas.Simd.{length-replicate, get_or-replicate, length-zip2, get_or-zip2, tops_compared}
use Rattle.std.proofs.lemmas.Simd.{get_or-sel_l}
use lib.Lanes.{top, zip2, sel_l}

-- a sixel lacks a bit exactly if masking the bit gives 0
no_bit : (bit mask b : ℕ) → mask ≡ 2 ^ bit → (bit_and b mask == 0) ≡ (bit_at b bit == 0)
no_bit bit mask b alone =
    ap (λ m. bit_and b m == 0) alone ∙ ap (λ n. n == 0) (and_pow b bit)
    ∙ elim (cases_eq (bit_at b bit) 0) [
      | inl none ↦
          let nothing : bit_at b bit * 2 ^ bit ≡ 0 = ap (λ n. n * 2 ^ bit) none ∙ omega arith in
          eq-eqb (bit_at b bit * 2 ^ bit) 0 nothing ∙ sym (eq-eqb (bit_at b bit) 0 none)
      | inr some ↦
          let one : bit_at b bit ≡ 1 = omega (arith, bit_at-lt b bit) in
          let kept : bit_at b bit * 2 ^ bit ≡ 1 * 2 ^ bit = ap (λ n. n * 2 ^ bit) one in
          let product : bit_at b bit * 2 ^ bit ≢ 0 = λ none. absurd (omega (arith, kept, pow_pos bit)) in
          ne_eqb (bit_at b bit * 2 ^ bit) 0 product ∙ sym (ne_eqb (bit_at b bit) 0 some)
    ]

chosen : (b bit old ink : ℕ) → cond (bit_at b bit == 0) old ink ≡ cond (bit_at b bit == 1) ink old
chosen b bit old ink =
    let two = bit_at-lt b bit in
    grind (arith, nat_tests)

-- which lanes have no bit of the mask
abbrev without : ℕ → List ℕ → List Bool
without mask sixels = zip2 (λ a b. a == b) (zip2 bit_and sixels (replicate 4 mask)) (replicate 4 0)

length-without : (mask : ℕ) (sixels : List ℕ) → length sixels ≡ 4 → length (without mask sixels) ≡ 4
length-without mask sixels long =
    let inner : length (zip2 bit_and sixels (replicate 4 mask)) ≡ 4 =
    length-zip2 bit_and sixels (replicate 4 mask) (long ∙ sym (length-replicate 4 mask)) ∙ long in
    length-zip2 (λ a b. a == b) _ (replicate 4 0) (inner ∙ sym (length-replicate {A = ℕ} 4 0)) ∙ inner

get_or-without : (bit mask : ℕ) (sixels : List ℕ) (j : ℕ) → mask ≡ 2 ^ bit → length sixels ≡ 4 → j < 4
    → get_or (without mask sixels) j false ≡ (bit_at (get_or sixels j 0) bit == 0)
get_or-without bit mask sixels j alone long lt =
    let masks = replicate 4 mask in
    let splat : length masks ≡ 4 = length-replicate 4 mask in
    let inner : length (zip2 bit_and sixels masks) ≡ 4 = length-zip2 bit_and sixels masks (long ∙ sym splat) ∙ long in
    let zeros : length {A = ℕ} (replicate 4 0) ≡ 4 = length-replicate {A = ℕ} 4 0 in
    get_or-zip2 (λ a b. a == b) (zip2 bit_and sixels masks) (replicate 4 0) j 0 0 false (omega arith) (omega arith)
    ∙ ap₂ (λ a b. a == b)
    (get_or-zip2 bit_and sixels masks j 0 0 0 (omega arith) (omega arith)
    ∙ ap (λ m. bit_and (get_or sixels j 0) m) (get_or-replicate 4 j mask 0 lt))
    (get_or-replicate 4 j 0 0 lt)
    ∙ no_bit bit mask (get_or sixels j 0) alone

pub painted_lane : (bit mask ink j : ℕ) (codes sixels : List ℕ) → length sixels ≡ 4 → length codes ≡ 4 → j < 4
    → mask ≡ 2 ^ bit
    → get_or (sel_l (map (top 31) (zip2 (λ a b. cond (a == b) 4294967295 0)
    (zip2 bit_and sixels (replicate 4 mask)) (replicate 4 0))) codes (replicate 4 ink)) j 0
    ≡ cond (bit_at (get_or sixels j 0) bit == 1) ink (get_or codes j 0)
painted_lane bit mask ink j codes sixels long whole lt alone =
    let splat : length (replicate 4 ink) ≡ 4 = length-replicate 4 ink in
    let tests : length (without mask sixels) ≡ 4 = length-without mask sixels long in
    ap (λ ms. get_or (sel_l ms codes (replicate 4 ink)) j 0)
    (tops_compared w32 (λ a b. a == b) (zip2 bit_and sixels (replicate 4 mask)) (replicate 4 0))
    ∙ get_or-sel_l (without mask sixels) codes (replicate 4 ink) j 0 (omega arith) (omega arith) (omega arith)
    ∙ (λ i. cond (get_or-without bit mask sixels j alone long lt i) (get_or codes j 0)
    (get_or-replicate 4 j ink 0 lt i))
    ∙ chosen (get_or sixels j 0) bit (get_or codes j 0) ink
