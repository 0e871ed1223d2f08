-- The bits that sixels have together, and sixels without bits.
use Rattle.std.proofs.Common.{◌≡◌, ℕ, ◌+◌, ◌-◌, ◌*◌, ◌/◌, ◌%◌, ◌^◌, ◌<◌, Bool, true, false, ◌&&◌, ◌||◌, List}
use Rattle.std.proofs.Common.{length, nat_le, nat_lt, refl, sym, ap, ap₂, ◌∙◌, arith}
use Rattle.std.proofs.Common.{[], ◌∷◌, ◌==◌, max, suc, zero, take}
use Rattle.std.specs.List.{list_any}
use Rattle.std.specs.Int.{bit_at}
use Rattle.std.specs.Prelude.{slice_index}
use Rattle.std.proofs.lemmas.List.Folds.{list_any_more}
use Rattle.std.proofs.lemmas.Nat.Bits.{bit_at-lt, bit_at-zero}
use Rattle.std.proofs.lemmas.Nat.{div-add-mod'}
use Rattle.std.proofs.lemmas.Nat.Bits.{bit_at_cat_low}
use Rattle.sixel_model.specs.Geometry.{covers}
use Rattle.sixel_model.specs.Positions.{any_below}
use Rattle.sixel_terminal.specs.declared.pen.Pen.{Pen}
use Rattle.sixel_terminal.specs.Displays.{Display}
use Rattle.sixel_terminal.specs.Steps.{is_before_edges, is_from_origin, pen_covers}
use Rattle.sixel_terminal.specs.Stretches.{AreJoined, has_bit}
use Rattle.sixel_terminal.proofs.StretchLemmas.{and_none}

-- ---- joined bits

pub none_joined : AreJoined 0 []
none_joined = λ bit. ap (λ n. n == 1) (bit_at-zero bit)

max_one : (a b : ℕ) → a < 2 → b < 2 → (max a b == 1) ≡ ((a == 1) || (b == 1))
max_one zero zero p q = refl
max_one zero (suc zero) p q = refl
max_one (suc zero) zero p q = refl
max_one (suc zero) (suc zero) p q = refl
max_one (suc (suc a)) b p q = absurd (omega (arith, p))
max_one zero (suc (suc b)) p q = absurd (omega (arith, q))
max_one (suc zero) (suc (suc b)) p q = absurd (omega (arith, q))

-- the next bits are those so far and those of byte i
pub joined_more : (bits next i : ℕ) (bytes : List ℕ) → i < length bytes → AreJoined bits (take i bytes)
    → ((bit : ℕ) → bit_at next bit ≡ max (bit_at bits bit) (bit_at (slice_index bytes i - 63) bit))
    → AreJoined next (take (i + 1) bytes)
joined_more bits next i bytes lt before is = λ bit.
    let own = slice_index bytes i - 63 in
    ap (λ n. n == 1) (is bit)
    ∙ max_one (bit_at bits bit) (bit_at own bit) (bit_at-lt bits bit) (bit_at-lt own bit)
    ∙ ap (λ (t : Bool). t || (bit_at own bit == 1)) (before bit)
    ∙ sym (list_any_more (λ b. has_bit b bit) bytes i 0 lt)

none_at : (p : ℕ → Bool) (xs : List ℕ) (k : ℕ) → list_any p xs ≡ false → k < length xs
    → p (slice_index xs k) ≡ false
none_at p [] k none lt = absurd (omega (arith, lt))
none_at p (x ∷ xs) zero none lt = or_first (p x) (list_any p xs) none
  where
    or_first : (a b : Bool) → (a || b) ≡ false → a ≡ false
    or_first false b h = refl
    or_first true b h = h
none_at p (x ∷ xs) (suc k) none lt =
    none_at p xs k (or_second (p x) (list_any p xs) none) (omega (arith, lt))
  where
    or_second : (a b : Bool) → (a || b) ≡ false → b ≡ false
    or_second false b h = h
    or_second true b h = cc

-- ---- a sixel without bits

-- the six lowest bits
pub low_bit : (bits k : ℕ) → k < 6 → bit_at (bits % 64) k ≡ bit_at bits k
low_bit bits k lt =
    let whole : (bits / 64) * 2 ^ 6 + bits % 64 ≡ bits = div-add-mod' bits 64 in
    sym (bit_at_cat_low (bits / 64) 6 (bits % 64) k lt) ∙ ap (λ n. bit_at n k) whole

none_below : (n : ℕ) (p : ℕ → Bool) → ((k : ℕ) → k < n → p k ≡ false) → any_below n p ≡ false
unfolding any_below
none_below zero p none = refl
none_below (suc n) p none =
    ap₂ (λ a b. a || b) (none n (omega arith)) (none_below n p (λ k lt. none k (omega (arith, lt))))

and_last : (a b : Bool) → (a && b && false) ≡ false
and_last true true = refl
and_last true false = refl
and_last false b = refl

-- its columns cover no pixel
pub blank_covers : (t : Display) (p : Pen) (count bits x y : ℕ) → bits % 64 ≡ 0 → pen_covers t p count bits x y ≡ false
unfolding covers
blank_covers t p count bits x y blank =
    let px = x - t.choices.origin_x in
    let py = y - t.choices.origin_y in
    let covered = λ (b : Bool) (k : ℕ). b && nat_le ((6 * p.band + k) * p.height) py
    && nat_lt py ((6 * p.band + k) * p.height + p.height) in
    let clear = λ (k : ℕ) (lt : k < 6).
    let bit : bit_at bits k ≡ 0 = sym (low_bit bits k lt) ∙ ap (λ n. bit_at n k) blank ∙ bit_at-zero k in
    ap (λ n. covered (n == 1) k) bit in
    let none = none_below 6 (λ k. covered (bit_at bits k == 1) k) clear in
    ap (λ (v : Bool). is_from_origin t x y && ((nat_le p.column px && nat_lt px (p.column + count) && v)
    && is_before_edges t p.declared x y)) none
    ∙ ap (λ (v : Bool). is_from_origin t x y && (v && is_before_edges t p.declared x y))
    (and_last (nat_le p.column px) (nat_lt px (p.column + count)))
    ∙ and_none (is_from_origin t x y)
