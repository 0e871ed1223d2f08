-- How many rows of its band a sixel reaches down, by the length of its bits.
use Rattle.std.proofs.Common.{◌≡◌, ◌==◌, ℕ, zero, suc, ◌+◌, ◌-◌, ◌*◌, ◌%◌, ◌^◌, ◌<◌, ◌≤◌, inl, inr, sym, ap, ◌∙◌, arith}
use Rattle.std.specs.Int.{bit_at}
use Rattle.std.specs.Int.Count.{count_leading_zeros}
use Rattle.std.proofs.Math.Nat.{two-pow-succ}
use Rattle.std.proofs.lemmas.Bool.{cases_lt, eq-eqb, eqb-true}
use Rattle.std.proofs.lemmas.Nat.{leading_length}
use Rattle.std.proofs.lemmas.Nat.Bits.{bit_at_above, bit_at_cat_high}
use Rattle.sixel_terminal.proofs.SixelLemmas.{low_bit}
use Rattle.sixel_mend.specs.Extents.{depth}
use Rattle.sixel_mend.proofs.ExtentLemmas.{is_depth, passes_within}

-- the highest bit
top_set : (n j : ℕ) → 2 ^ j ≤ n → n < 2 ^ suc j → bit_at n j ≡ 1
top_set n j least below =
    let double : 2 ^ suc j ≡ 2 ^ j + 2 ^ j = two-pow-succ j in
    let split : 1 * 2 ^ j + (n - 2 ^ j) ≡ n = omega (arith, least) in
    let here : j - j ≡ 0 = omega arith in
    ap (λ m. bit_at m j) (sym split)
    ∙ bit_at_cat_high 1 j (n - 2 ^ j) j (omega (arith, double, below, least)) (omega arith)
    ∙ ap (λ k. bit_at 1 k) here

-- a sixel whose bits are below 2 ^ m reaches at most m rows down
pub depth_within : (bits m : ℕ) → bits % 64 < 2 ^ m → depth bits ≤ m
depth_within bits m below =
    let is = is_depth 6 (λ k. bit_at bits k == 1) in
    elim (cases_lt m (depth bits)) [
      | inl deeper ↦
          let last = depth bits - 1 in
          let set : bit_at bits last ≡ 1 = eqb-true (bit_at bits last) 1 (is.passes (omega (arith, deeper))) in
          let clear : bit_at (bits % 64) last ≡ 0 = bit_at_above (bits % 64) m last below (omega (arith, deeper)) in
          let no : 0 ≡ 1 = sym clear ∙ low_bit bits last (omega (arith, is.few, deeper)) ∙ set in
          absurd (omega (arith, no))
      | inr enough ↦ enough
    ]

deep_enough : (bits m : ℕ) → 2 ^ m ≤ 2 * (bits % 64) + 1 → bits % 64 < 2 ^ m → m ≤ depth bits
deep_enough bits zero least below = omega arith
deep_enough bits (suc j) least below =
    let double : 2 ^ suc j ≡ 2 ^ j + 2 ^ j = two-pow-succ j in
    let top : bit_at (bits % 64) j ≡ 1 = top_set (bits % 64) j (omega (arith, double, least)) below in
    let six : bits % 64 < 2 ^ 6 = omega arith in
    elim (cases_lt j 6) [
      | inl lt ↦
          let set : bit_at bits j ≡ 1 = sym (low_bit bits j lt) ∙ top in
          omega (arith, passes_within 6 j (λ k. bit_at bits k == 1) lt (eq-eqb (bit_at bits j) 1 set))
      | inr past ↦
          let no : 0 ≡ 1 = sym (bit_at_above (bits % 64) 6 j six past) ∙ top in
          absurd (omega (arith, no))
    ]

-- the length of the six bits
pub record IsLength (bits length : ℕ) : Type 0 where
  pub value : length ≡ depth bits
  pub above : bits % 64 < 2 ^ length

pub leading_depth : (bits : ℕ) → IsLength bits (32 - count_leading_zeros 32 (bits % 64))
leading_depth bits =
    let small : bits % 64 < 2 ^ 32 = omega arith in
    let l = leading_length 32 (bits % 64) small in
    let m = l.0 in
    let count : 32 - count_leading_zeros 32 (bits % 64) ≡ m = omega (arith, l.1) in
    let most : depth bits ≤ m = depth_within bits m l.2 in
    let least : m ≤ depth bits = deep_enough bits m l.3 l.2 in
    rw count (record { value = omega (arith, most, least); above = l.2 })
