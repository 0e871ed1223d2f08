-- The first select that names no register: a string has exactly one answer.
use Rattle.std.proofs.Common.{◌≡◌, ◌∙◌, ◌+◌, ◌<◌, ℕ, zero, suc, Bool, true, false, List, [], ◌∷◌, Option, Some, None}
use Rattle.std.proofs.Common.{ap, arith, refl, subst}
use Rattle.sixel_omissions.specs.Omissions.{IsFirstBare, is_bare_at}
use Rattle.sixel_omissions.proofs.BareLemmas.{bare_behind}

-- ---- at most one

pub bare_once : (bytes : List ℕ) (o u : Option ℕ) → IsFirstBare bytes o → IsFirstBare bytes u → o ≡ u
bare_once bytes None None a b = refl
bare_once bytes None (Some q) a b = let no : is_bare_at bytes q ≡ false = a q in let is = b.0 in cc
bare_once bytes (Some p) None a b = let no : is_bare_at bytes p ≡ false = b p in let is = a.0 in cc
bare_once bytes (Some p) (Some q) a b =
    let not_less : ¬ (p < q) = λ lt. (let no : is_bare_at bytes p ≡ false = b.1 p lt in let is = a.0 in cc) in
    let not_more : ¬ (q < p) = λ lt. (let no : is_bare_at bytes q ≡ false = a.1 q lt in let is = b.0 in cc) in
    let same : p ≡ q = omega (arith, not_less, not_more) in
    ap (λ (n : ℕ). Some n) same

-- ---- at least one

-- none in front of an offset
none_in_front : (x : ℕ) (xs : List ℕ) (n i : ℕ) → is_bare_at (x ∷ xs) 0 ≡ false
    → ((j : ℕ) → j < n → is_bare_at xs j ≡ false) → i < n + 1 → is_bare_at (x ∷ xs) i ≡ false
none_in_front x xs n zero here rest lt = here
none_in_front x xs n (suc i) here rest lt =
    let next : i + 1 ≡ suc i = omega arith in
    subst (λ (k : ℕ). is_bare_at (x ∷ xs) k ≡ false) next (bare_behind x xs i ∙ rest i (omega (arith, lt)))

abbrev SomeFirst : List ℕ → Type 0
SomeFirst bytes = (o : Option ℕ) × IsFirstBare bytes o

exists_by : (x : ℕ) (xs : List ℕ) (b : Bool) (o : Option ℕ) → is_bare_at (x ∷ xs) 0 ≡ b → IsFirstBare xs o
    → SomeFirst (x ∷ xs)
exists_by x xs true o here f = (Some 0, (here, λ i lt. absurd (omega (arith, lt))))
exists_by x xs false None here f = (None, λ i. none_in_front x xs i i here (λ j lt. f j) (omega arith))
exists_by x xs false (Some n) here f = (
  Some (n + 1),
  (bare_behind x xs n ∙ f.0, λ i lt. none_in_front x xs n i here f.1 lt),
)

pub bare_exists : (bytes : List ℕ) → (o : Option ℕ) × IsFirstBare bytes o
bare_exists [] = (None, λ i. refl)
bare_exists (x ∷ xs) =
    let rest = bare_exists xs in
    exists_by x xs (is_bare_at (x ∷ xs) 0) rest.0 refl rest.1
