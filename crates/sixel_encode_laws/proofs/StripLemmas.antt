-- The points that columns with given bits cover.
use Rattle.std.proofs.Common.{◌≡◌, ℕ, zero, suc, ◌+◌, ◌*◌, Bool, true, false, ◌&&◌, ◌||◌, List, [], ◌∷◌, ◌++◌, length}
use Rattle.std.proofs.Common.{replicate, refl, sym, ap, ◌∙◌, arith}
use Rattle.std.specs.Prelude.{◌==◌, nat_le, nat_lt}
use Rattle.std.specs.Int.{bit_at}
use Rattle.std.proofs.Math.Bool.{and-false, or_assoc}
use Rattle.std.proofs.lemmas.Bool.Decides.{nat_tests}
use Rattle.sixel_model.specs.Positions.{any_below}
use Rattle.sixel_model.specs.Geometry.{covers}
use Rattle.sixel_model.proofs.CoverLemmas.{no_columns_cover}

pub within_split : (c n x : ℕ) → (nat_le c x && nat_lt x (c + suc n))
    ≡ ((nat_le c x && nat_lt x (c + 1)) || (nat_le (c + 1) x && nat_lt x (c + 1 + n)))
within_split c n x = grind (arith, nat_tests)

pub or_and : (a b c : Bool) → ((a || b) && c) ≡ ((a && c) || (b && c))
or_and true b true = refl
or_and true b false = sym (and-false b)
or_and false b c = refl

-- the first column, then the others
pub covers_split : (left n band rows bits x y : ℕ)
    → covers left (suc n) band rows bits x y
    ≡ (covers left 1 band rows bits x y || covers (left + 1) n band rows bits x y)
unfolding covers
covers_split left n band rows bits x y = rw (within_split left n x)
    (or_and (nat_le left x && nat_lt x (left + 1)) (nat_le (left + 1) x && nat_lt x (left + 1 + n))
    (any_below 6 (λ k. (bit_at bits k == 1) && nat_le ((6 * band + k) * rows) y && nat_lt y
    ((6 * band + k) * rows + rows))))

-- one of these columns, the first of them at `left`, covers the point
unfoldable pub lies : ℕ → ℕ → List ℕ → ℕ → ℕ → Bool
lies left band [] x y = false
lies left band (b ∷ bs) x y = covers left 1 band 1 b x y || lies (left + 1) band bs x y

pub lies_replicate : (n left band b x y : ℕ) → covers left n band 1 b x y ≡ lies left band (replicate n b) x y
unfolding lies
lies_replicate zero left band b x y = no_columns_cover left band b x y
lies_replicate (suc n) left band b x y = covers_split left n band 1 b x y
    ∙ ap (λ o. covers left 1 band 1 b x y || o) (lies_replicate n (left + 1) band b x y)

pub lies_append : (left band : ℕ) (xs ys : List ℕ) (x y : ℕ)
    → lies left band (xs ++ ys) x y ≡ (lies left band xs x y || lies (left + length xs) band ys x y)
unfolding lies
lies_append left band [] ys x y = let e : left + 0 ≡ left = omega arith in rw e refl
lies_append left band (b ∷ bs) ys x y =
    let e : left + 1 + length bs ≡ left + suc (length bs) = omega arith in
    ap (λ o. covers left 1 band 1 b x y || o) (lies_append (left + 1) band bs ys x y ∙ rw e refl)
    ∙ sym (or_assoc (covers left 1 band 1 b x y) (lies (left + 1) band bs x y)
    (lies (left + suc (length bs)) band ys x y))
