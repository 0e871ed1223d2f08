-- Which points a run covers if a bit has one row, and events that paint none.
use Rattle.std.proofs.Common.{◌≡◌, ◌==◌, ℕ, zero, suc, ◌+◌, ◌*◌, ◌/◌, ◌%◌, ◌^◌, ◌<◌, ◌≤◌, Bool, true, false, ◌&&◌, ◌||◌}
use Rattle.std.proofs.Common.{nat_le, nat_lt, inl, inr, List, [], ◌∷◌, ◌++◌, refl, sym, ap, ◌∙◌, arith}
use Rattle.std.specs.Int.{bit_at}
use Rattle.std.proofs.lemmas.Bool.{and_from, and_parts, cases_lt, eq-eqb, eqb-true, false_from_ne_true, le-leb}
use Rattle.std.proofs.lemmas.Bool.{leb-true, lt-ltb, ltb-true, or_left, or_right}
use Rattle.std.proofs.lemmas.Nat.Bits.{bit_at_cat_low, bit_at-zero}
use Rattle.sixel_grammar.specs.declared.command.Event.{Event}
use Rattle.sixel_model.specs.Events.{bits_of, columns_of}
use Rattle.sixel_model.specs.Geometry.{band, column, covers, falls, touches}
use Rattle.sixel_model.specs.Positions.{any_below}
use Rattle.sixel_model.specs.Rules.{is_covered, register_at}
use Rattle.sixel_model.proofs.StepLemmas.{covered_push, register_push}

-- some number below n passes
pub record PassesBelow (n : ℕ) (p : ℕ → Bool) : Type 0 where
  pub number : ℕ
  pub below : number < n
  pub passes : p number ≡ true

passes_step : (n : ℕ) (p : ℕ → Bool) (b : Bool) → p n ≡ b → (b || any_below n p) ≡ true
    → (any_below n p ≡ true → PassesBelow n p) → PassesBelow (suc n) p
passes_step n p true e h more = record { number = n; below = omega arith; passes = e }
passes_step n p false e h more =
    let rest = more h in
    let low : rest.number < n = rest.below in
    record { number = rest.number; below = omega arith; passes = rest.passes }

pub passes_below : (n : ℕ) (p : ℕ → Bool) → any_below n p ≡ true → PassesBelow n p
unfolding any_below
passes_below zero p h = cc
passes_below (suc n) p h = passes_step n p (p n) refl h (passes_below n p)

any_step : (n k : ℕ) (p : ℕ → Bool) → k < suc n → p k ≡ true → (k < n → any_below n p ≡ true)
    → (p n || any_below n p) ≡ true
any_step n k p lt h more = elim (cases_lt k n) [
  | inl low ↦ or_right (p n) (any_below n p) (more low)
  | inr high ↦ let same : k ≡ n = omega (arith, lt, high) in or_left (p n) (any_below n p) (ap p (sym same) ∙ h)
]

pub any_below_at : (n k : ℕ) (p : ℕ → Bool) → k < n → p k ≡ true → any_below n p ≡ true
unfolding any_below
any_below_at zero k p lt h = absurd (omega arith)
any_below_at (suc n) k p lt h = any_step n k p lt h (λ low. any_below_at n k p low h)

-- the point is in the columns of a run, in the row of a set bit
pub record LiesUnder (left count line bits x y : ℕ) : Type 0 where
  pub bit : ℕ
  pub below : bit < 6
  pub set : bit_at bits bit ≡ 1
  pub row : y ≡ 6 * line + bit
  pub from : left ≤ x
  pub to : x < left + count

pub lies_under : (left count line bits x y : ℕ) → covers left count line 1 bits x y ≡ true
    → LiesUnder left count line bits x y
unfolding covers
lies_under left count line bits x y h =
    let parts = and_parts (nat_le left x && nat_lt x (left + count)) _ h in
    let columns = and_parts (nat_le left x) (nat_lt x (left + count)) parts.0 in
    let found = passes_below 6 _ parts.1 in
    let k : ℕ = found.number in
    let rows =
    and_parts ((bit_at bits k == 1) && nat_le ((6 * line + k) * 1) y) (nat_lt y ((6 * line + k) * 1 + 1))
    found.passes in
    let set = and_parts (bit_at bits k == 1) (nat_le ((6 * line + k) * 1) y) rows.0 in
    let from : (6 * line + k) * 1 ≤ y = leb-true _ _ set.1 in
    let to : y < (6 * line + k) * 1 + 1 = ltb-true _ _ rows.1 in
    record {
      bit = k;
      below = found.below;
      set = eqb-true _ _ set.0;
      row = omega arith;
      from = leb-true _ _ columns.0;
      to = ltb-true _ _ columns.1;
    }

pub covers_under : (left count line bits x y : ℕ) → LiesUnder left count line bits x y
    → covers left count line 1 bits x y ≡ true
unfolding covers
covers_under left count line bits x y u =
    let row : y ≡ 6 * line + u.bit = u.row in
    and_from _ _ (and_from _ _ (le-leb left x u.from) (lt-ltb x (left + count) u.to))
    (any_below_at 6 u.bit _ u.below
    (and_from _ _ (and_from _ _ (eq-eqb (bit_at bits u.bit) 1 u.set) (le-leb ((6 * line + u.bit) * 1) y (omega arith)))
    (lt-ltb y ((6 * line + u.bit) * 1 + 1) (omega arith))))

-- a run of no columns covers no point
pub no_columns_cover : (left line bits x y : ℕ) → covers left 0 line 1 bits x y ≡ false
no_columns_cover left line bits x y =
    false_from_ne_true _ (λ h.
    let u = lies_under left 0 line bits x y h in
    let from : left ≤ x = u.from in
    let to : x < left + 0 = u.to in
    absurd (omega arith))

-- a run without a set bit of the six covers no point
pub no_bits_cover : (left count line bits x y : ℕ) → bits % 64 ≡ 0 → covers left count line 1 bits x y ≡ false
no_bits_cover left count line bits x y clear =
    false_from_ne_true _ (λ h.
    let u = lies_under left count line bits x y h in
    let set : bit_at bits u.bit ≡ 1 = u.set in
    let whole : bits ≡ bits / 64 * 2 ^ 6 + 0 = omega arith in
    let unset : bit_at bits u.bit ≡ 0 =
    ap (λ (n : ℕ). bit_at n u.bit) whole ∙ bit_at_cat_low (bits / 64) 6 0 u.bit u.below ∙ bit_at-zero u.bit in
    absurd (omega arith))

-- ---- events without a set bit of the six

pub idle_falls : (before : List Event) (e : Event) (x y : ℕ) → bits_of e % 64 ≡ 0 → falls before e x y ≡ false
unfolding falls touches
idle_falls before e x y h = no_bits_cover (column 0 before) (columns_of 0 e) (band before) (bits_of e) x y h

pub idle_covered : (before : List Event) (e : Event) (x y : ℕ) → bits_of e % 64 ≡ 0
    → is_covered (before ++ e ∷ []) x y ≡ is_covered before x y
idle_covered before e x y h = covered_push before e x y ∙ rw (idle_falls before e x y h) refl

pub idle_register : (before : List Event) (e : Event) (x y : ℕ) → bits_of e % 64 ≡ 0
    → register_at (before ++ e ∷ []) x y ≡ register_at before x y
idle_register before e x y h = register_push before e x y ∙ rw (idle_falls before e x y h) refl
