-- Painting a sixel bit by bit, over a list of pixels; `inside` and `row` place each pixel in columns and rows.
use Rattle.std.proofs.Common.{◌≡◌, ◌==◌, ℕ, ◌+◌, ◌*◌, ◌<◌, Bool, true, false, ◌&&◌, ◌||◌, cond, List, length, get_or}
use Rattle.std.proofs.Common.{nat_le, nat_lt, refl, sym, ap, ◌∙◌, arith, add-one}
use Rattle.std.specs.Int.{bit_at}
use Rattle.std.proofs.Math.Bool.{and-false}
use Rattle.sixel_model.specs.Positions.{any_below}

-- the row is one of those of bit k, if each bit has `rows` rows
abbrev pub bit_rows : ℕ → ℕ → ℕ → ℕ → Bool
bit_rows line rows y k = nat_le ((6 * line + k) * rows) y && nat_lt y ((6 * line + k) * rows + rows)

-- bit k is set, and the row is one of its rows
abbrev pub bit_covers : ℕ → ℕ → ℕ → ℕ → ℕ → Bool
bit_covers line rows bits y k =
    (bit_at bits k == 1) && nat_le ((6 * line + k) * rows) y && nat_lt y ((6 * line + k) * rows + rows)

set_covers : (line rows bits y k : ℕ) → (bit_at bits k == 1) ≡ true
    → bit_covers line rows bits y k ≡ bit_rows line rows y k
set_covers line rows bits y k set = rw set refl

clear_covers : (line rows bits y k : ℕ) → (bit_at bits k == 1) ≡ false → bit_covers line rows bits y k ≡ false
clear_covers line rows bits y k clear = rw clear refl

-- the pixels after painting the bits below n, in the columns that are inside
pub record IsPaintedBelow {A : Type 0} (n line rows bits : ℕ) (inside : ℕ → Bool) (row : ℕ → ℕ) (ink blank : A)
    (old new : List A) : Type 0 where
  pub long : length new ≡ length old
  pub pixels : (i : ℕ) → i < length old
      → get_or new i blank ≡ cond (inside i && any_below n (bit_covers line rows bits (row i))) ink (get_or old i blank)

pub painted_none : {A : Type 0} (line rows bits : ℕ) (inside : ℕ → Bool) (row : ℕ → ℕ) (ink blank : A) (xs : List A)
    → IsPaintedBelow 0 line rows bits inside row ink blank xs xs
unfolding any_below
painted_none line rows bits inside row ink blank xs = record {
  long = refl;
  pixels = λ i lt. ap (λ t. cond t ink (get_or xs i blank)) (sym (and-false (inside i)));
}

-- one row painted over those before
pub on_top : {A : Type 0} (a t b : Bool) (r o : A) → cond (a && t) r (cond (a && b) r o) ≡ cond (a && (t || b)) r o
on_top true true b r o = refl
on_top true false b r o = refl
on_top false t b r o = refl

-- one more bit, which is set
pub painted_more : {A : Type 0} (k line rows bits : ℕ) (inside : ℕ → Bool) (row : ℕ → ℕ) (ink blank : A)
    (old mid new : List A) → (bit_at bits k == 1) ≡ true
    → IsPaintedBelow k line rows bits inside row ink blank old mid → length new ≡ length mid
    → ((i : ℕ) → i < length mid
    → get_or new i blank ≡ cond (inside i && bit_rows line rows (row i) k) ink (get_or mid i blank))
    → IsPaintedBelow (k + 1) line rows bits inside row ink blank old new
unfolding any_below
painted_more k line rows bits inside row ink blank old mid new set before long written = record {
  long = long ∙ before.long;
  pixels = λ i lt.
      let t = bit_rows line rows (row i) k in
      let b = any_below k (bit_covers line rows bits (row i)) in
      let joined : get_or new i blank ≡ cond (inside i && (t || b)) ink (get_or old i blank) =
      written i (omega (arith, before.long)) ∙ ap (λ o. cond (inside i && t) ink o) (before.pixels i lt)
      ∙ on_top (inside i) t b ink (get_or old i blank) in
      rw (add-one, set_covers line rows bits (row i) k set) joined;
}

-- one more bit, which isn't set
pub painted_same : {A : Type 0} (k line rows bits : ℕ) (inside : ℕ → Bool) (row : ℕ → ℕ) (ink blank : A)
    (old mid new : List A) → (bit_at bits k == 1) ≡ false
    → IsPaintedBelow k line rows bits inside row ink blank old mid → length new ≡ length mid
    → ((i : ℕ) → i < length mid → get_or new i blank ≡ get_or mid i blank)
    → IsPaintedBelow (k + 1) line rows bits inside row ink blank old new
unfolding any_below
painted_same k line rows bits inside row ink blank old mid new clear before long same = record {
  long = long ∙ before.long;
  pixels = λ i lt.
      rw (add-one, clear_covers line rows bits (row i) k clear)
      (same i (omega (arith, before.long)) ∙ before.pixels i lt);
}
