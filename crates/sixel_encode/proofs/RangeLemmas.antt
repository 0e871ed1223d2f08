-- The numbers of a range, in order.
use Rattle.std.proofs.Common.{◌≡◌, ℕ, zero, suc, ◌+◌, ◌<◌, ◌≤◌, ◌⊎◌, inl, inr, Bool, true, false, ◌&&◌, ◌||◌, cond}
use Rattle.std.proofs.Common.{List, [], ◌∷◌, ◌++◌, refl, ap, arith, add-one, eq-or-lt_of_le}
use Rattle.std.specs.Prelude.{filter}
use Rattle.std.specs.List.{range_with_len, list_any, AllByRecursion}
use Rattle.std.proofs.lemmas.Bool.{cond_both, or_left, or_right}
use Rattle.sixel_encode.specs.Canon.{below}

range_then : (a n j : ℕ) → a + n ≡ j → range_with_len a (suc n) ≡ range_with_len a n ++ j ∷ []
range_then a zero j e = let same : a ≡ j = omega arith in ap (λ (k : ℕ). k ∷ []) same
range_then a (suc n) j e = ap (λ (ks : List ℕ). a ∷ ks) (range_then (a + 1) n j (omega arith))

-- the longer range ends with one more number
pub below_then : (n : ℕ) → below (n + 1) ≡ below n ++ n ∷ []
below_then n = rw add-one (range_then 0 n n (omega arith))

-- ---- a number of the range that passes

-- a number of the range passes
pub record InRange (a n : ℕ) (q : ℕ → Bool) : Type 0 where
  pub number : ℕ
  pub from : a ≤ number
  pub under : number < a + n
  pub passes : q number ≡ true

in_range_step : (a n : ℕ) (q : ℕ → Bool) (t rest : Bool) → q a ≡ t → (rest ≡ true → InRange (a + 1) n q)
    → (t || rest) ≡ true → InRange a (suc n) q
in_range_step a n q true rest e k h = record { number = a; from = omega arith; under = omega arith; passes = e }
in_range_step a n q false rest e k h =
    let i = k h in
    let l : a + 1 ≤ i.number = i.from in
    let u : i.number < a + 1 + n = i.under in
    record { number = i.number; from = omega arith; under = omega arith; passes = i.passes }

pub range_any : (n a : ℕ) (q : ℕ → Bool) → list_any q (range_with_len a n) ≡ true → InRange a n q
range_any zero a q h = cc h
range_any (suc n) a q h =
    in_range_step a n q (q a) (list_any q (range_with_len (a + 1) n)) refl (range_any n (a + 1) q) h

any_range_step : (a i n : ℕ) (q : ℕ → Bool) (rest : Bool) → q i ≡ true → a ≤ i → (a < i → rest ≡ true)
    → (a ≡ i) ⊎ (a < i) → (q a || rest) ≡ true
any_range_step a i n q rest e l k (inl same) = or_left (q a) rest (rw same e)
any_range_step a i n q rest e l k (inr less) = or_right (q a) rest (k less)

pub any_range : (n a i : ℕ) (q : ℕ → Bool) → a ≤ i → i < a + n → q i ≡ true → list_any q (range_with_len a n) ≡ true
any_range zero a i q l u e = absurd (omega arith)
any_range (suc n) a i q l u e =
    any_range_step a i n q (list_any q (range_with_len (a + 1) n)) e l
    (λ m. any_range n (a + 1) i q (omega arith) (omega arith) e) (eq-or-lt_of_le l)

any_filter_step : (t b rest : Bool) (q : ℕ → Bool) (x : ℕ) (xs : List ℕ) → q x ≡ b → list_any q xs ≡ rest
    → list_any q (cond t (x ∷ xs) xs) ≡ ((t && b) || rest)
any_filter_step true b rest q x xs e h = rw (e, h) refl
any_filter_step false b rest q x xs e h = h

pub any_filter : (p q : ℕ → Bool) (xs : List ℕ) → list_any q (filter p xs) ≡ list_any (λ x. p x && q x) xs
any_filter p q [] = refl
any_filter p q (x ∷ xs) = any_filter_step (p x) (q x) _ q x (filter p xs) refl (any_filter p q xs)

-- if P holds for each number below m that passes, it holds for each number of the filtered range
pub filter_range : (P : ℕ → Type 0) (p : ℕ → Bool) (n a m : ℕ) → a + n ≤ m → ((r : ℕ) → r < m → p r ≡ true → P r)
    → AllByRecursion P (filter p (range_with_len a n))
filter_range P p zero a m l h = tt
filter_range P p (suc n) a m l h =
    let rest = filter_range P p n (a + 1) m (omega arith) h in
    cond_both (p a) (a ∷ filter p (range_with_len (a + 1) n)) (filter p (range_with_len (a + 1) n)) (AllByRecursion P)
    (λ t. (h a (omega arith) t, rest)) (λ t. rest)
