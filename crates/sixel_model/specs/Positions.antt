-- Searches in lists. At a position, a search sees the item there and the items before it.
use Rattle.std.specs.Prelude.{◌≡◌, ℕ, zero, suc, Bool, false, ◌||◌, Option, Some, None, List, [], ◌∷◌, length, take}
use Rattle.std.specs.Prelude.{slice_get, if◌then◌else◌}
use Rattle.std.specs.Option.{option_or, option_and_then, option_map_or}
use Rattle.std.specs.List.{list_any}

-- the result of f for the last item that has one
unfoldable pub latest : {X A : Type 0} → (X → Option A) → List X → Option A
latest f [] = None
latest f (x ∷ xs) = option_or (latest f xs) (f x)

-- the result of f for the first item that has one
unfoldable pub earliest : {X A : Type 0} → (X → Option A) → List X → Option A
earliest f [] = None
earliest f (x ∷ xs) = option_or (f x) (earliest f xs)

-- the items after the last one that passes, or all if none passes
unfoldable pub since : {X : Type 0} → (X → Bool) → List X → List X
since p [] = []
since p (x ∷ xs) = if list_any p xs then since p xs else if p x then xs else x ∷ xs

-- whether a number below n passes
unfoldable pub any_below : ℕ → (ℕ → Bool) → Bool
any_below zero p = false
any_below (suc n) p = p n || any_below n p

-- the result of f for the last number below n that has one
unfoldable pub last_below : {A : Type 0} → ℕ → (ℕ → Option A) → Option A
last_below zero f = None
last_below (suc n) f = option_or (f n) (last_below n f)

-- the result of f for the items before position i and the item there
unfoldable pub at_position : {X A : Type 0} → (List X → X → Option A) → List X → ℕ → Option A
at_position f xs i = option_and_then (λ x. f (take i xs) x) (slice_get xs i)

-- the result of f at the last position that has one
unfoldable pub last_at : {X A : Type 0} → (List X → X → Option A) → List X → Option A
last_at f xs = last_below (length xs) (at_position f xs)

-- P holds for the items before position i and the item there
pub record HoldsAtPosition {X : Type 0} (P : List X → X → Type 0) (xs : List X) (i : ℕ) : Type 0 where
  pub item : X
  pub here : slice_get xs i ≡ Some item
  pub holds : P (take i xs) item

-- P holds at no position
abbrev pub HoldsNowhere : {X : Type 0} → (List X → X → Type 0) → List X → Type 0
HoldsNowhere P xs = (i : ℕ) → ¬ HoldsAtPosition P xs i

-- whether the item at position i passes, given the items before it
unfoldable pub passes_at : {X : Type 0} → (List X → X → Bool) → List X → ℕ → Bool
passes_at p xs i = option_map_or (λ x. p (take i xs) x) (slice_get xs i) false

-- whether some item passes, given the items before it
unfoldable pub any_at : {X : Type 0} → (List X → X → Bool) → List X → Bool
any_at p xs = any_below (length xs) (passes_at p xs)
