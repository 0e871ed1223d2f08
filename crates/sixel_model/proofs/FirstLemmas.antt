-- The first item that has a result.
use Rattle.std.proofs.Common.{◌≡◌, ◌≤◌, ℕ, zero, suc, Option, Some, None, List, [], ◌∷◌, take, refl, arith}
use Rattle.std.specs.Prelude.{IsSome, slice_get}
use Rattle.std.specs.Option.{option_or}
use Rattle.sixel_model.specs.Positions.{earliest}

later_step : {A : Type 0} (o p q : Option A) → (IsSome p → IsSome q) → IsSome (option_or o p) → IsSome (option_or o q)
later_step None p q ih h = ih h
later_step (Some a) p q ih h = refl

-- if an item before i has a result, one before a later j has
pub earliest_later : {X A : Type 0} (f : X → Option A) (i j : ℕ) (xs : List X) → i ≤ j
    → IsSome (earliest f (take i xs)) → IsSome (earliest f (take j xs))
unfolding earliest
earliest_later f zero j xs le h = cc
earliest_later f (suc i) j [] le h = cc
earliest_later f (suc i) zero (x ∷ xs) le h = absurd (omega arith)
earliest_later f (suc i) (suc j) (x ∷ xs) le h =
    later_step (f x) (earliest f (take i xs)) (earliest f (take j xs)) (earliest_later f i j xs (omega arith)) h

all_step : {A : Type 0} (o p q : Option A) (a : A) → (p ≡ Some a → q ≡ Some a) → option_or o p ≡ Some a
    → option_or o q ≡ Some a
all_step None p q a ih h = ih h
all_step (Some b) p q a ih h = h

-- the first result before a position is the first of all
pub earliest_all : {X A : Type 0} (f : X → Option A) (i : ℕ) (xs : List X) (a : A)
    → earliest f (take i xs) ≡ Some a → earliest f xs ≡ Some a
unfolding earliest
earliest_all f zero xs a h = cc
earliest_all f (suc i) [] a h = h
earliest_all f (suc i) (x ∷ xs) a h =
    all_step (f x) (earliest f (take i xs)) (earliest f xs) a (earliest_all f i xs a) h

there_step : {A : Type 0} (o p q : Option A) (a : A) → (p ≡ None → q ≡ Some a) → option_or o p ≡ None
    → option_or o q ≡ Some a
there_step None p q a ih h = ih h
there_step (Some b) p q a ih h = cc

-- position i has the first result, if it has one and none before it has
pub earliest_there : {X A : Type 0} (f : X → Option A) (i : ℕ) (xs : List X) (x : X) (a : A)
    → slice_get xs i ≡ Some x → earliest f (take i xs) ≡ None → f x ≡ Some a → earliest f xs ≡ Some a
unfolding earliest
earliest_there f i [] x a here none h = cc
earliest_there f zero (y ∷ ys) x a here none h = let same : y ≡ x = cc in rw (same, h) refl
earliest_there f (suc i) (y ∷ ys) x a here none h =
    there_step (f y) (earliest f (take i ys)) (earliest f ys) a (λ n. earliest_there f i ys x a here n h) none
