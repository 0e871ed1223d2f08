-- The latest item that has a result.
use Rattle.std.proofs.Common.{◌≡◌, ℕ, zero, suc, Option, Some, None, List, [], ◌∷◌, ◌++◌, take, refl, ap, ◌∙◌}
use Rattle.std.specs.Prelude.{slice_get, IsSome, IfSome}
use Rattle.std.specs.Option.{option_or, option_and_then}
use Rattle.std.specs.List.{AllByRecursion}
use Rattle.sixel_model.specs.Positions.{latest}
use Rattle.sixel_model.proofs.KnownLemmas.{latest_each}

-- the latest result is that of an item at some position
pub record Gives {X A : Type 0} (f : X → Option A) (xs : List X) (a : A) : Type 0 where
  pub at : ℕ
  pub item : X
  pub here : slice_get xs at ≡ Some item
  pub gives : f item ≡ Some a

gives_step : {X A : Type 0} (f : X → Option A) (x : X) (xs : List X) (a : A) (o : Option A) →
    ((b : A) → o ≡ Some b → Gives f xs b)
    → option_or o (f x) ≡ Some a → Gives f (x ∷ xs) a
gives_step f x xs a None ih h = record { at = 0; item = x; here = refl; gives = h }
gives_step f x xs a (Some b) ih h =
    let g : Gives f xs b = ih b refl in
    record { at = suc g.at; item = g.item; here = g.here; gives = g.gives ∙ h }

pub latest_gives : {X A : Type 0} (f : X → Option A) (xs : List X) (a : A) → latest f xs ≡ Some a → Gives f xs a
unfolding latest
latest_gives f [] a h = cc
latest_gives f (x ∷ xs) a h = gives_step f x xs a (latest f xs) (latest_gives f xs) h

then_step : {A B : Type 0} (g : A → Option B) (p o : Option A) → IfSome p (λ a. IsSome (g a))
    → option_or (option_and_then g p) (option_and_then g o) ≡ option_and_then g (option_or p o)
then_step g None o h = refl
then_step g (Some a) o h = some_or (g a) (option_and_then g o) h
  where
    some_or : {B : Type 0} (q r : Option B) → IsSome q → option_or q r ≡ q
    some_or None r h = cc
    some_or (Some b) r h = refl

-- if g has a result for each result of f, the latest of both is g of the latest of f
pub latest_then : {X A B : Type 0} (f : X → Option A) (g : A → Option B) (xs : List X)
    → AllByRecursion (λ x. IfSome (f x) (λ a. IsSome (g a))) xs →
    latest (λ x. option_and_then g (f x)) xs ≡ option_and_then g (latest f xs)
unfolding latest
latest_then f g [] h = refl
latest_then f g (x ∷ xs) h =
    ap (λ o. option_or o (option_and_then g (f x))) (latest_then f g xs h.1)
    ∙ then_step g (latest f xs) (f x) (latest_each f (λ a. IsSome (g a)) xs h.1)

-- functions that agree on each item have the same latest result
pub latest_same : {X A : Type 0} (f g : X → Option A) (xs : List X) → AllByRecursion (λ x. f x ≡ g x) xs
    → latest f xs ≡ latest g xs
unfolding latest
latest_same f g [] h = refl
latest_same f g (x ∷ xs) h =
    let rest : latest f xs ≡ latest g xs = latest_same f g xs h.1 in
    let here : f x ≡ g x = h.0 in
    cc

-- what holds for the item at each position holds for each item
pub each_from_positions : {X : Type 0} (P : X → Type 0) (xs : List X) →
    ((j : ℕ) (x : X) → slice_get xs j ≡ Some x → P x)
    → AllByRecursion P xs
each_from_positions P [] h = tt
each_from_positions P (x ∷ xs) h = (h 0 x refl, each_from_positions P xs (λ j y e. h (suc j) y e))

-- the items before the next position are those before this one, and the item here
pub take_one_more : {X : Type 0} (xs : List X) (i : ℕ) (x : X) → slice_get xs i ≡ Some x
    → take (suc i) xs ≡ take i xs ++ x ∷ []
take_one_more [] i x h = cc
take_one_more (y ∷ ys) zero x h = let same : y ≡ x = cc in ap (λ (z : _). z ∷ []) same
take_one_more (y ∷ ys) (suc i) x h = ap (λ (zs : List _). y ∷ zs) (take_one_more ys i x h)
