-- How the texts of short repeats begin.
use Rattle.std.proofs.Common.{◌≡◌, ◌∙◌, ℕ, ◌+◌, ◌/◌, ◌%◌, ◌<◌, ◌≤◌, Bool, true, false, List, [], ◌∷◌, ◌++◌, ap, arith}
use Rattle.std.proofs.Common.{get_or, inl, inr, length, refl, sym, take}
use Rattle.std.specs.Prelude.{nat_lt, if◌then◌else◌}
use Rattle.std.proofs.lemmas.Bool.{cases_lt, le-ltb, lt-ltb}
use Rattle.std.proofs.lemmas.Fmt.{decimal_digit}
use Rattle.sixel_encode.specs.Heads.{HasHead, IsHead, head}
use Rattle.sixel_encode.proofs.DecimalLemmas.{two_digits}
use Rattle.sixel_encode.proofs.LineLemmas.{first_of_four}

head-one : (count : ℕ) → count < 10 → head count ≡ 33 ∷ (48 + count) ∷ []
head-one count small = rw (decimal_digit count small) refl

head-two : (count : ℕ) → 10 ≤ count → count < 100 → head count ≡ 33 ∷ (48 + count / 10) ∷ (48 + count % 10) ∷ []
head-two count large small = rw (two_digits count large small) refl

head-long : (count : ℕ) → count < 100 → length (head count) ≡ (if nat_lt count 10 then 2 else 3)
head-long count few = elim (cases_lt count 10) [
  | inl small ↦ ap length (head-one count small)
      ∙ sym (ap (λ (t : Bool). if t then 2 else 3) (lt-ltb count 10 small))
  | inr large ↦ ap length (head-two count large few)
      ∙ sym (ap (λ (t : Bool). if t then 2 else 3) (le-ltb count 10 large))
]

three_at_most : (t : Bool) → (if t then 2 else 3) ≤ 3
three_at_most true = omega arith
three_at_most false = omega arith

pub is-one : (count digit : ℕ) → count < 10 → digit ≡ 48 + count → IsHead count (33 ∷ digit ∷ 0 ∷ 0 ∷ [])
is-one count digit small is = record {
  long = refl;
  begins = rw (is, decimal_digit count small) refl;
}

pub is-two : (count tens ones : ℕ) → 10 ≤ count → count < 100 → tens ≡ 48 + count / 10 → ones ≡ 48 + count % 10
    → IsHead count (33 ∷ tens ∷ ones ∷ 0 ∷ [])
is-two count tens ones large small is₁ is₂ = record {
  long = refl;
  begins = rw (is₁, is₂, two_digits count large small) refl;
}

-- a head was put, and behind it the rest of its four bytes
pub head_put : (at count index long : ℕ) (texts : List (List ℕ)) (old new : List ℕ) → at ≤ length old → count < 100
    → HasHead texts count → long ≡ (if nat_lt count 10 then 2 else 3)
    → take (at + length (get_or texts index [])) new ≡ take at old ++ get_or texts index [] → index ≡ count
    → take (at + long) new ≡ take at old ++ head count
head_put at count index long texts old new room few has wide is same =
    let bytes = get_or texts count [] in
    let size : long ≡ length (head count) = wide ∙ sym (head-long count few) in
    let put : take (at + length bytes) new ≡ take at old ++ bytes = rw same at is in
    first_of_four at long old new bytes room (omega (arith, wide, three_at_most (nat_lt count 10)))
    (ap (λ (n : ℕ). take (at + n) new) (sym has.long) ∙ put)
    ∙ ap (λ (t : List ℕ). take at old ++ t) (ap (λ (n : ℕ). take n bytes) size ∙ has.begins)
