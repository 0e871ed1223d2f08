-- Painting a run row by row, over a list of one item for each pixel.
use Rattle.std.proofs.Common.{◌≡◌, ◌==◌, ℕ, ◌+◌, ◌-◌, ◌*◌, ◌/◌, ◌%◌, ◌<◌, ◌≤◌, Bool, true, false, ◌&&◌, cond, List}
use Rattle.std.proofs.Common.{length, get_or, nat_le, nat_lt, refl, sym, ap, ◌∙◌, arith}
use Rattle.std.specs.Int.{bit_at}
use Rattle.std.proofs.lemmas.Bool.{and_parts, and_from, leb-true, ltb-true, le-leb, lt-ltb}
use Rattle.std.proofs.lemmas.Nat.{div-add-mod', mod_below, same_from_place}
use Rattle.sixel_model.specs.Geometry.{covers}
use Rattle.sixel_model.proofs.PaintLemmas.{IsPaintedBelow, painted_more}

-- the items after painting the bits of a run below n
abbrev pub IsRunBelow : {A : Type 0} → ℕ → ℕ → ℕ → ℕ → ℕ → ℕ → A → A → List A → List A → Type 0
IsRunBelow n w left count band bits value default old new =
    IsPaintedBelow n band 1 bits (λ i. nat_le left (i % w) && nat_lt (i % w) (left + count)) (λ i. i / w) value default
    old new

pub same_test : (a b : Bool) → (a ≡ true → b ≡ true) → (b ≡ true → a ≡ true) → a ≡ b
same_test true b f g = sym (f refl)
same_test false true f g = g refl
same_test false false f g = refl

-- an index between two indices of a row is in that row
same_row : (w row p q left count : ℕ) → q < w → left + count ≤ w
    → row * w + left ≤ p * w + q → p * w + q < row * w + left + count → p ≡ row
same_row w row p q left count in_width fits from to =
    let short : p * w + q - row * w < w = omega arith in
    let place : p * w + q ≡ row * w + (p * w + q - row * w) = omega arith in
    (same_from_place p q row (p * w + q - row * w) w in_width short place).0

pub in_row_at : (w row p q left count : ℕ) → q < w → left + count ≤ w
    → (nat_le (row * w + left) (p * w + q) && nat_lt (p * w + q) (row * w + left + count))
    ≡ ((nat_le left q && nat_lt q (left + count)) && (nat_le row p && nat_lt p (row + 1)))
in_row_at w row p q left count in_width fits =
    same_test _ _
    (λ t.
    let parts = and_parts (nat_le (row * w + left) (p * w + q)) (nat_lt (p * w + q) (row * w + left + count)) t in
    let from = leb-true _ _ parts.0 in
    let to = ltb-true _ _ parts.1 in
    let same = same_row w row p q left count in_width fits from to in
    let here : p * w ≡ row * w = ap (λ n. n * w) same in
    and_from _ _ (and_from _ _ (le-leb left q (omega arith)) (lt-ltb q (left + count) (omega arith)))
    (and_from _ _ (le-leb row p (omega arith)) (lt-ltb p (row + 1) (omega arith))))
    (λ t.
    let parts = and_parts (nat_le left q && nat_lt q (left + count)) (nat_le row p && nat_lt p (row + 1)) t in
    let columns = and_parts (nat_le left q) (nat_lt q (left + count)) parts.0 in
    let rows = and_parts (nat_le row p) (nat_lt p (row + 1)) parts.1 in
    let from = leb-true _ _ columns.0 in
    let to = ltb-true _ _ columns.1 in
    let low = leb-true _ _ rows.0 in
    let high = ltb-true _ _ rows.1 in
    let same : p ≡ row = omega arith in
    let here : p * w ≡ row * w = ap (λ n. n * w) same in
    and_from _ _ (le-leb (row * w + left) (p * w + q) (omega arith))
    (lt-ltb (p * w + q) (row * w + left + count) (omega arith)))

-- the indices of a run in one row
pub in_row : (w row left count i : ℕ) → 0 < w → left + count ≤ w
    → (nat_le (row * w + left) i && nat_lt i (row * w + left + count))
    ≡ ((nat_le left (i % w) && nat_lt (i % w) (left + count)) && (nat_le row (i / w) && nat_lt (i / w) (row + 1)))
in_row w row left count i some fits =
    let at = in_row_at w row (i / w) (i % w) left count (mod_below i w some) fits in
    rw (div-add-mod' i w) at at

-- one more bit, which is set
pub run_more : {A : Type 0} (k w left count band bits start : ℕ) (value default : A) (old mid new : List A)
    → 0 < w → left + count ≤ w → start ≡ (6 * band + k) * w + left
    → (bit_at bits k == 1) ≡ true → IsRunBelow k w left count band bits value default old mid → length new ≡ length mid
    → ((i : ℕ) → i < length mid
    → get_or new i default ≡ cond (nat_le start i && nat_lt i (start + count)) value (get_or mid i default))
    → IsRunBelow (k + 1) w left count band bits value default old new
run_more k w left count band bits start value default old mid new some fits at set before long row =
    let one : (6 * band + k) * 1 ≡ 6 * band + k = omega arith in
    painted_more k band 1 bits _ _ value default old mid new set before long
    (λ i lt. row i lt
    ∙ ap (λ (v : Bool). cond v value (get_or mid i default))
    (rw (at, one) (in_row w (6 * band + k) left count i some fits)))

-- after all six bits, the pixels that the run covers have the value
pub covered_rows : {A : Type 0} (w left count band bits : ℕ) (value default : A) (old new : List A)
    → IsRunBelow 6 w left count band bits value default old new → (i : ℕ) → i < length old
    → get_or new i default ≡ cond (covers left count band 1 bits (i % w) (i / w)) value (get_or old i default)
unfolding covers
covered_rows w left count band bits value default old new painted = painted.pixels
