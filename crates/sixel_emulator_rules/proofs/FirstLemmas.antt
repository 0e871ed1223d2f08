-- The first rule in order of number that passes a test.
use Rattle.std.proofs.Common.{◌≡◌, ◌<◌, ◌≤◌, ◌+◌, ◌-◌, inl, inr, eq-or-lt_of_le, ℕ, suc, Bool}
use Rattle.std.proofs.Common.{true, false, Option, Some, None, List, []}
use Rattle.std.proofs.Common.{◌∷◌, cond, length, refl, sym, ap, ◌∙◌, arith}
use Rattle.std.specs.Prelude.{slice_get}
use Rattle.std.specs.List.{find}
use Rattle.sixel_emulator_rules.specs.Asked.{number_of}
use Rattle.sixel_emulator_rules.specs.Counts.{in_order}
use Rattle.sixel_emulator_rules.specs.declared.rule.AskedRule.{AskedRule}
use Rattle.sixel_emulator_rules.specs.declared.rule.AskedRule.TheVariants.{RasterLate, Dropped, Stale, Large, Rows}
use Rattle.sixel_emulator_rules.specs.declared.rule.AskedRule.TheVariants.{Past, Hue}
use Rattle.sixel_emulator_rules.specs.declared.rule.AskedRule.TheVariants.{Far, Introducer, Bare, SpaceAfter}

-- the rule's place in the list
pub there : (r : AskedRule) → slice_get in_order (number_of r - 14) ≡ Some r
there RasterLate = refl
there Dropped = refl
there Stale = refl
there Large = refl
there Rows = refl
there Past = refl
there Hue = refl
there Far = refl
there Introducer = refl
there Bare = refl
there SpaceAfter = refl

pub same_number : (m r : AskedRule) → number_of m ≡ number_of r → m ≡ r
same_number m r h =
    let one : Some m ≡ Some r = sym (there m) ∙ (ap (λ (n : ℕ). slice_get in_order (n - 14)) h ∙ there r) in
    cc

-- their numbers go up by one from n
abbrev AreNumbered : ℕ → List AskedRule → Type 0
AreNumbered n [] = Unit {0}
AreNumbered n (x ∷ xs) = (number_of x ≡ n) × AreNumbered (suc n) xs

in_order_numbered : AreNumbered 14 in_order
in_order_numbered = (refl, (refl, (refl, (refl, (refl, (refl, (refl, (refl, (refl, (refl, (refl, tt)))))))))))

pub at_least : (m : AskedRule) → 14 ≤ number_of m
at_least RasterLate = omega arith
at_least Dropped = omega arith
at_least Stale = omega arith
at_least Large = omega arith
at_least Rows = omega arith
at_least Past = omega arith
at_least Hue = omega arith
at_least Far = omega arith
at_least Introducer = omega arith
at_least Bare = omega arith
at_least SpaceAfter = omega arith

at_most : (m : AskedRule) → number_of m < 25
at_most RasterLate = omega arith
at_most Dropped = omega arith
at_most Stale = omega arith
at_most Large = omega arith
at_most Rows = omega arith
at_most Past = omega arith
at_most Hue = omega arith
at_most Far = omega arith
at_most Introducer = omega arith
at_most Bare = omega arith
at_most SpaceAfter = omega arith

-- what is found passes
found_by : (p : AskedRule → Bool) (x r : AskedRule) (o : Option AskedRule) (b : Bool) → p x ≡ b
    → (o ≡ Some r → p r ≡ true) → cond b (Some x) o ≡ Some r → p r ≡ true
found_by p x r o true e rest h = let same : x ≡ r = cc in ap p (sym same) ∙ e
found_by p x r o false e rest h = rest h

found : (p : AskedRule → Bool) (xs : List AskedRule) (r : AskedRule) → find p xs ≡ Some r → p r ≡ true
found p [] r h = cc
found p (x ∷ xs) r h = found_by p x r (find p xs) (p x) refl (found p xs r) h

pub first_passes : (p : AskedRule → Bool) (r : AskedRule) → find p in_order ≡ Some r → p r ≡ true
first_passes p r h = found p in_order r h

-- the first fails, and so do those after it, or the rule is one of those after it
next_fails : (p : AskedRule → Bool) (n : ℕ) (x m : AskedRule) → p x ≡ false → number_of x ≡ n → n ≤ number_of m
    → (suc n ≤ number_of m → p m ≡ false) → p m ≡ false
next_fails p n x m e at from rest = elim (eq-or-lt_of_le from) [
  | inl here ↦ ap p (same_number m x (sym here ∙ sym at)) ∙ e
  | inr later ↦ rest later
]

-- those with a smaller number than the one found fail
smaller_by : (p : AskedRule → Bool) (n : ℕ) (x r m : AskedRule) (o : Option AskedRule) (b : Bool) → p x ≡ b
    → number_of x ≡ n → n ≤ number_of m → number_of m < number_of r
    → (o ≡ Some r → suc n ≤ number_of m → p m ≡ false) → cond b (Some x) o ≡ Some r → p m ≡ false
smaller_by p n x r m o true e at from to rest h =
    let same : x ≡ r = cc in
    let same_at : number_of r ≡ n = ap number_of (sym same) ∙ at in
    absurd (omega (arith, from, to, same_at))
smaller_by p n x r m o false e at from to rest h = next_fails p n x m e at from (rest h)

smaller : (p : AskedRule → Bool) (n : ℕ) (xs : List AskedRule) (r m : AskedRule) → AreNumbered n xs
    → n ≤ number_of m → number_of m < number_of r → find p xs ≡ Some r → p m ≡ false
smaller p n [] r m numbered from to h = cc
smaller p n (x ∷ xs) r m numbered from to h =
    smaller_by p n x r m (find p xs) (p x) refl numbered.0 from to
    (λ k later. smaller p (suc n) xs r m numbered.1 later to k) h

pub first_is_least : (p : AskedRule → Bool) (r m : AskedRule) → find p in_order ≡ Some r
    → number_of m < number_of r → p m ≡ false
first_is_least p r m h lt = smaller p 14 in_order r m in_order_numbered (at_least m) lt h

-- if none is found, all fail
fail_by : (p : AskedRule → Bool) (n : ℕ) (x m : AskedRule) (o : Option AskedRule) (b : Bool) → p x ≡ b
    → number_of x ≡ n → n ≤ number_of m → (o ≡ None → suc n ≤ number_of m → p m ≡ false)
    → cond b (Some x) o ≡ None → p m ≡ false
fail_by p n x m o true e at from rest h = cc
fail_by p n x m o false e at from rest h = next_fails p n x m e at from (rest h)

all_fail : (p : AskedRule → Bool) (n : ℕ) (xs : List AskedRule) (m : AskedRule) → AreNumbered n xs
    → n ≤ number_of m → number_of m < n + length xs → find p xs ≡ None → p m ≡ false
all_fail p n [] m numbered from to h = absurd (omega (arith, from, to))
all_fail p n (x ∷ xs) m numbered from to h =
    fail_by p n x m (find p xs) (p x) refl numbered.0 from
    (λ k later. all_fail p (suc n) xs m numbered.1 later (omega (arith, to)) k) h

pub none_passes : (p : AskedRule → Bool) (m : AskedRule) → find p in_order ≡ None → p m ≡ false
none_passes p m h = all_fail p 14 in_order m in_order_numbered (at_least m) (at_most m) h
