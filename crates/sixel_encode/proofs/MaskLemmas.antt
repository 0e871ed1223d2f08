-- The bits of a mask.
use Rattle.std.proofs.Common.{◌≡◌, ◌≢◌, ℕ, ◌+◌, ◌-◌, ◌%◌, ◌/◌, ◌^◌, ◌<◌, ◌≤◌, min, w64, sym, ap, ◌∙◌, arith}
use Rattle.std.specs.Int.{bit_at, trailing_zeros}
use Rattle.std.proofs.Math.Nat.{div-div-eq-div-mul}
use Rattle.std.proofs.lemmas.Nat.{pow-add, shr_le}
use Rattle.std.proofs.lemmas.Nat.Bits.{bit_at-trailing_zeros, bit_at-zero}

pub bit_shifted : (n k i : ℕ) → bit_at (n / 2 ^ k) i ≡ bit_at n (k + i)
bit_shifted n k i =
    ap (λ (m : ℕ). m % 2) (div-div-eq-div-mul n (2 ^ k) (2 ^ i) ∙ ap (λ (m : ℕ). n / m) (sym (pow-add 2 k i)))

-- the same for a mask moved by few bits
pub bit_halved : (n i : ℕ) → bit_at (n / 2) i ≡ bit_at n (1 + i)
bit_halved n i = bit_shifted n 1 i

pub bit_quartered : (n i : ℕ) → bit_at (n / 4) i ≡ bit_at n (2 + i)
bit_quartered n i = bit_shifted n 2 i

pub bit_eighth : (n i : ℕ) → bit_at (n / 8) i ≡ bit_at n (3 + i)
bit_eighth n i = bit_shifted n 3 i

-- if no bit from k on is set, bit g isn't
pub none_left : (n k g : ℕ) → n / 2 ^ k ≡ 0 → k ≤ g → bit_at n g ≡ 0
none_left n k g none low =
    let at : k + (g - k) ≡ g = omega arith in
    ap (bit_at n) (sym at) ∙ sym (bit_shifted n k (g - k)) ∙ ap (λ (m : ℕ). bit_at m (g - k)) none
    ∙ bit_at-zero (g - k)

-- no bit from k on and before the lowest set one is set
pub none_before : (n k m r g : ℕ) → n < 2 ^ 64 → n / 2 ^ k ≢ 0 → r ≡ min (k + trailing_zeros w64 (n / 2 ^ k)) m
    → k ≤ g → g < r → bit_at n g ≡ 0
none_before n k m r g small some is low less =
    let at : k + (g - k) ≡ g = omega arith in
    let few : n / 2 ^ k ≤ n = shr_le n k in
    let lowest = bit_at-trailing_zeros w64 (n / 2 ^ k) (omega arith) (omega arith) in
    ap (bit_at n) (sym at) ∙ sym (bit_shifted n k (g - k)) ∙ lowest.2 (g - k) (omega arith)

-- the lowest set bit from k on
pub first_left : (n k m r : ℕ) → n < 2 ^ 64 → n / 2 ^ k ≢ 0 → r ≡ min (k + trailing_zeros w64 (n / 2 ^ k)) m
    → r < m → bit_at n r ≡ 1
first_left n k m r small some is less =
    let at : k + trailing_zeros w64 (n / 2 ^ k) ≡ r = omega arith in
    let few : n / 2 ^ k ≤ n = shr_le n k in
    let lowest = bit_at-trailing_zeros w64 (n / 2 ^ k) (omega arith) (omega arith) in
    ap (bit_at n) (sym at) ∙ sym (bit_shifted n k (trailing_zeros w64 (n / 2 ^ k))) ∙ lowest.1

-- a mask has no bit from 64 on
pub none_past : (n g : ℕ) → n < 2 ^ 64 → 64 ≤ g → bit_at n g ≡ 0
none_past n g small past = none_left n 64 g (omega arith) past
