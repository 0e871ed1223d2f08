-- The least number and the first point with a property, if each can be tested.
use Rattle.std.proofs.Common.{◌≡◌, ◌==◌, ◌<◌, ◌⊎◌, ℕ, zero, suc, Bool, true, false, nat_lt, inl, inr, refl, subst}
use Rattle.std.proofs.Common.{arith}
use Rattle.std.specs.Prelude.{IsTrue}
use Rattle.std.proofs.lemmas.Bool.{and_parts, eqb-false, eqb-true, ltb-true, or_cases}
use Rattle.sixel_model.specs.Rules.{IsFirstPoint, is_before}

-- ---- the least number

-- P holds, or it doesn't
abbrev pub Decided : Type 0 → Type 0
Decided P = P ⊎ ¬ P

unfoldable pub decide_true : (b : Bool) → Decided (IsTrue b)
decide_true true = inl refl
decide_true false = inr (λ h. cc)

-- the least number with P, below k
pub record LeastBelow (P : ℕ → Type 0) (k : ℕ) : Type 0 where
  pub number : ℕ
  pub below : number < k
  pub holds : P number
  pub least : (m : ℕ) → m < number → ¬ P m

unfoldable pub least_here : (P : ℕ → Type 0) (k : ℕ) → ((n : ℕ) → n < k → ¬ P n) → Decided (P k)
    → LeastBelow P (suc k) ⊎ ((n : ℕ) → n < suc k → ¬ P n)
least_here P k none (inl p) = inl (record { number = k; below = omega arith; holds = p; least = none })
least_here P k none (inr not) = inr (λ n lt p. split n lt p (n == k) refl)
  where
    split : (n : ℕ) → n < suc k → P n → (b : Bool) → (n == k) ≡ b → ⊥
    split n lt p true e = not (subst P (eqb-true n k e) p)
    split n lt p false e = none n (below n lt e) p
      where
        below : (n : ℕ) → n < suc k → (n == k) ≡ false → n < k
        below n lt e = omega (arith, lt, eqb-false n k e)

unfoldable pub least_more : (P : ℕ → Type 0) (k : ℕ) → Decided (P k) → LeastBelow P k ⊎ ((n : ℕ) → n < k → ¬ P n)
    → LeastBelow P (suc k) ⊎ ((n : ℕ) → n < suc k → ¬ P n)
least_more P k here (inl f) =
    let low : f.number < k = f.below in
    inl (record { number = f.number; below = omega arith; holds = f.holds; least = f.least })
least_more P k here (inr none) = least_here P k none here

unfoldable pub least_below : (P : ℕ → Type 0) → ((n : ℕ) → Decided (P n)) → (k : ℕ)
    → LeastBelow P k ⊎ ((n : ℕ) → n < k → ¬ P n)
least_below P decide zero = inr (λ n lt p. omega (arith, lt))
least_below P decide (suc k) = least_more P k (decide k) (least_below P decide k)

-- ---- the first point

-- the points with P lie in this many columns and rows, and each can be tested
pub record Searchable (P : ℕ → ℕ → Type 0) : Type 0 where
  pub width : ℕ
  pub height : ℕ
  pub decide : (x y : ℕ) → Decided (P x y)
  pub left : (x y : ℕ) → P x y → x < width
  pub above : (x y : ℕ) → P x y → y < height

unfoldable pub in_row : (P : ℕ → ℕ → Type 0) (s : Searchable P) (y : ℕ)
    → LeastBelow (λ x. P x y) s.width ⊎ ((x : ℕ) → ¬ P x y)
in_row P s y = elim (least_below (λ x. P x y) (λ x. s.decide x y) s.width) [
  | inl f ↦ inl f
  | inr none ↦ inr (λ x p. none x (s.left x y p) p)
]

unfoldable pub row_decided : (P : ℕ → ℕ → Type 0) (s : Searchable P) (y : ℕ) → Decided (LeastBelow (λ x. P x y) s.width)
row_decided P s y = elim (in_row P s y) [
  | inl f ↦ inl f
  | inr none ↦ inr (λ f. none f.number f.holds)
]

pub none_before : (P : ℕ → ℕ → Type 0) (s : Searchable P) (y : ℕ)
    → ((v : ℕ) → v < y → ¬ LeastBelow (λ x. P x v) s.width) → (f : LeastBelow (λ x. P x y) s.width)
    → (u v : ℕ) → IsTrue (is_before u v f.number y) → ¬ P u v
none_before P s y rows f u v earlier p = elim (or_cases (nat_lt v y) _ earlier) [
  | inl above ↦ elim (in_row P s v) [
    | inl g ↦ rows v (ltb-true v y above) g
    | inr none ↦ none u p
  ]
  | inr beside ↦
      let parts = and_parts (v == y) (nat_lt u f.number) beside in
      f.least u (ltb-true u f.number parts.1) (subst (λ (row : ℕ). P u row) (eqb-true v y parts.0) p)
]

unfoldable pub first_point : (P : ℕ → ℕ → Type 0) → Searchable P
    → ((x : ℕ) × (y : ℕ) × IsFirstPoint P x y) ⊎ ((x y : ℕ) → ¬ P x y)
first_point P s = elim (least_below (λ y. LeastBelow (λ x. P x y) s.width) (row_decided P s) s.height) [
  | inl f ↦ inl (
    f.holds.number,
    f.number,
    record { holds = f.holds.holds; none_before = none_before P s f.number f.least f.holds },
  )
  | inr none ↦ inr (λ x y p. elim (in_row P s y) [
    | inl g ↦ none y (s.above x y p) g
    | inr empty ↦ empty x p
  ])
]
