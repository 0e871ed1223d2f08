-- Lists that are split in two ways.
use Rattle.std.proofs.Common.{◌≡◌, ◌≢◌, ◌∙◌, ℕ, ◌<◌, ◌≤◌, inl, inr, List, [], ◌∷◌, ◌++◌, length}
use Rattle.std.proofs.Common.{take, drop, refl, sym, ap, arith}
use Rattle.std.proofs.lemmas.Bool.{cases_lt}
use Rattle.std.proofs.lemmas.List.{drop-append-le, drop_at, take-append-le, take_all, take_at}

pub not_nil : (xs : List ℕ) (x : ℕ) (ys : List ℕ) → [] ≡ xs ++ x ∷ ys → ⊥
not_nil [] x ys e = cc
not_nil (y ∷ xs) x ys e = cc

pub heads_differ : (x y : ℕ) (xs ys : List ℕ) → x ≢ y → x ∷ xs ≡ y ∷ ys → ⊥
heads_differ x y xs ys ne e = ne (cc)

-- the first of two ways to split a list, where it is the shorter one
pub shorter_first : (a b c d : List ℕ) → a ++ b ≡ c ++ d → length a ≤ length c → take (length a) c ≡ a
shorter_first a b c d e short =
    sym (take-append-le (length a) c d short) ∙ ap (take (length a)) (sym e) ∙ take_at a b (length a) refl

pub shorter_rest : (a b c d : List ℕ) → a ++ b ≡ c ++ d → length a ≤ length c → drop (length a) c ++ d ≡ b
shorter_rest a b c d e short =
    sym (drop-append-le (length a) c d short) ∙ ap (drop (length a)) (sym e) ∙ drop_at a b (length a) refl

pub same_first : (a b c d : List ℕ) → a ++ b ≡ c ++ d → length a ≡ length c → a ≡ c
same_first a b c d e long = sym (shorter_first a b c d e (omega arith)) ∙ take_all (length a) c (omega arith)

-- neither of two numbers is below the other
pub no_less : (m n : ℕ) → (m < n → ⊥) → (n < m → ⊥) → m ≡ n
no_less m n p q = elim (cases_lt m n) [
  | inl below ↦ absurd (p below)
  | inr above ↦ elim (cases_lt n m) [ inl below ↦ absurd (q below) | inr most ↦ omega arith ]
]
