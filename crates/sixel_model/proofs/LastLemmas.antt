-- The last position that has a result.
use Rattle.std.proofs.Common.{◌≡◌, ◌<◌, ℕ, zero, suc, Bool, true, false, ◌||◌, inl, inr, Option, Some, None, List, []}
use Rattle.std.proofs.Common.{◌∷◌, length, take, refl, ◌∙◌, arith}
use Rattle.std.specs.Prelude.{IsSome, slice_get}
use Rattle.std.specs.Option.{option_or}
use Rattle.std.proofs.lemmas.Bool.{cases_lt}
use Rattle.sixel_model.specs.Positions.{any_below, at_position, last_below, passes_at}

-- a is the result of f for a number below n, and no later number has one
pub record IsLast {A : Type 0} (f : ℕ → Option A) (n : ℕ) (a : A) : Type 0 where
  pub at : ℕ
  pub below : at < n
  pub gives : f at ≡ Some a
  pub after : (j : ℕ) → at < j → j < n → f j ≡ None

last_step : {A : Type 0} (f : ℕ → Option A) (n : ℕ) (a : A) (o : Option A) → f n ≡ o
    → (last_below n f ≡ Some a → IsLast f n a) → option_or o (last_below n f) ≡ Some a → IsLast f (suc n) a
last_step f n a (Some b) e ih h =
    record { at = n; below = omega arith; gives = e ∙ h; after = λ j lt le. absurd (omega arith) }
last_step f n a None e ih h =
    let l : IsLast f n a = ih h in
    record {
      at = l.at;
      below = let b : l.at < n = l.below in omega arith;
      gives = l.gives;
      after = λ j lt le. later l j lt le;
    }
  where
    later : (l : IsLast f n a) (j : ℕ) → l.at < j → j < suc n → f j ≡ None
    later l j lt le = elim (cases_lt j n) [
      | inl below ↦ l.after j lt below
      | inr above ↦ (let same : j ≡ n = omega arith in rw same e)
    ]

-- if the search finds a last result, it is the last one
pub last_is : {A : Type 0} (n : ℕ) (f : ℕ → Option A) (a : A) → last_below n f ≡ Some a → IsLast f n a
unfolding last_below
last_is zero f a h = cc
last_is (suc n) f a h = last_step f n a (f n) refl (last_is n f a) h

-- if there is a last result, the search finds it
pub is_last : {A : Type 0} (n : ℕ) (f : ℕ → Option A) (a : A) → IsLast f n a → last_below n f ≡ Some a
unfolding last_below
is_last zero f a l = let b : l.at < 0 = l.below in absurd (omega arith)
is_last (suc n) f a l =
    let b : l.at < suc n = l.below in
    elim (cases_lt l.at n) [
      | inl below ↦ (let none : f n ≡ None = l.after n below (omega arith) in
          rw none (is_last n f a (record {
            at = l.at;
            below = below;
            gives = l.gives;
            after = λ j lt le. l.after j lt (omega arith);
          })))
      | inr above ↦ (let same : l.at ≡ n = omega arith in let here : f n ≡ Some a = rw same at l.gives in rw here refl)
    ]

some_step : {A : Type 0} (o q : Option A) (b c : Bool) → (b ≡ true → IsSome o) → (c ≡ true → IsSome q)
    → (b || c) ≡ true → IsSome (option_or o q)
some_step (Some a) q b c h k t = refl
some_step {A = A} None q true c h k t = let no : IsSome {T = A} None = h refl in cc
some_step None q false c h k t = k t

-- if a number below n passes, and each number that passes has a result, the search finds one
pub some_last : {A : Type 0} (n : ℕ) (p : ℕ → Bool) (f : ℕ → Option A)
    → ((i : ℕ) → i < n → p i ≡ true → IsSome (f i)) → any_below n p ≡ true → IsSome (last_below n f)
unfolding any_below last_below
some_last zero p f h t = cc
some_last (suc n) p f h t =
    some_step (f n) (last_below n f) (p n) (any_below n p) (h n (omega arith))
    (some_last n p f (λ i lt. h i (omega arith))) t

-- each position of a list has an item
pub item_there : {X : Type 0} (xs : List X) (i : ℕ) → i < length xs → (x : X) × (slice_get xs i ≡ Some x)
item_there [] i h = absurd (omega arith)
item_there (x ∷ xs) zero h = (x, refl)
item_there (x ∷ xs) (suc i) h = item_there xs i (omega arith)

-- the result of f at the position of an item
pub at_there : {X A : Type 0} (f : List X → X → Option A) (xs : List X) (i : ℕ) (x : X) → slice_get xs i ≡ Some x
    → at_position f xs i ≡ f (take i xs) x
unfolding at_position
at_there f xs i x h = rw h refl

pub passes_there : {X : Type 0} (p : List X → X → Bool) (xs : List X) (i : ℕ) (x : X) → slice_get xs i ≡ Some x
    → passes_at p xs i ≡ p (take i xs) x
unfolding passes_at
passes_there p xs i x h = rw h refl
