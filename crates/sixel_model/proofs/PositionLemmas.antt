-- Searches by position in a list with one more item at the end.
use Rattle.std.proofs.Common.{◌≡◌, ℕ, zero, suc, ◌<◌, ◌≤◌, Bool, true, false, ◌&&◌, ◌||◌, cond, Option, Some, None}
use Rattle.std.proofs.Common.{List, [], ◌∷◌, ◌++◌, length, take, ◌⊎◌, inl, inr, refl, sym, ap, subst, ◌∙◌, arith}
use Rattle.std.specs.Prelude.{slice_get}
use Rattle.std.specs.Option.{option_or}
use Rattle.std.specs.List.{list_any}
use Rattle.std.proofs.Math.Bool.{or-false}
use Rattle.std.proofs.Math.Nat.{eq-or-lt_of_le}
use Rattle.std.proofs.lemmas.Option.{slice_get_within}
use Rattle.std.proofs.lemmas.List.{take-append-le, length-append}
use Rattle.std.proofs.lemmas.List.Folds.{list_any-append}
use Rattle.std.proofs.Math.Seq.{take-append_seam}
use Rattle.sixel_model.specs.Positions.{latest, earliest, since, any_below, passes_at, any_at, last_below}
use Rattle.sixel_model.specs.Positions.{at_position, last_at, HoldsAtPosition}

pub option_or_none : {A : Type 0} (o : Option A) → option_or o None ≡ o
option_or_none None = refl
option_or_none (Some x) = refl

pub option_or_assoc : {A : Type 0} (o p q : Option A) → option_or (option_or o p) q ≡ option_or o (option_or p q)
option_or_assoc None p q = refl
option_or_assoc (Some x) p q = refl

-- the latest result with one more item at the end
pub latest_push : {X A : Type 0} (f : X → Option A) (xs : List X) (x : X)
    → latest f (xs ++ x ∷ []) ≡ option_or (f x) (latest f xs)
unfolding latest
latest_push f [] x = sym (option_or_none (f x))
latest_push f (y ∷ ys) x = ap (λ o. option_or o (f y)) (latest_push f ys x) ∙ option_or_assoc (f x) (latest f ys) (f y)

-- the earliest result with one more item at the end
pub earliest_push : {X A : Type 0} (f : X → Option A) (xs : List X) (x : X)
    → earliest f (xs ++ x ∷ []) ≡ option_or (earliest f xs) (f x)
unfolding earliest
earliest_push f [] x = option_or_none (f x)
earliest_push f (y ∷ ys) x =
    ap (option_or (f y)) (earliest_push f ys x) ∙ sym (option_or_assoc (f y) (earliest f ys) (f x))

pub and_false : (a : Bool) → (a && false) ≡ false
and_false true = refl
and_false false = refl

since_step : {X : Type 0} (x y : X) (ys s t : List X) (a b c : Bool) → t ≡ cond a [] (s ++ x ∷ []) →
    cond (b || a) t (cond c (ys ++ x ∷ []) (y ∷ (ys ++ x ∷ []))) ≡ cond a [] (cond b s (cond c ys (y ∷ ys)) ++ x ∷ [])
since_step x y ys s t true true c h = h
since_step x y ys s t true false c h = h
since_step x y ys s t false true c h = h
since_step x y ys s t false false true h = refl
since_step x y ys s t false false false h = refl

any_push : {X : Type 0} (p : X → Bool) (ys : List X) (x : X) → list_any p (ys ++ x ∷ []) ≡ (list_any p ys || p x)
any_push p ys x = list_any-append p ys (x ∷ []) ∙ ap (λ b. list_any p ys || b) (or-false (p x))

-- the items since the last one that passes, with one more item at the end
pub since_push : {X : Type 0} (p : X → Bool) (xs : List X) (x : X)
    → since p (xs ++ x ∷ []) ≡ cond (p x) [] (since p xs ++ x ∷ [])
unfolding since
since_push p [] x = refl
since_push p (y ∷ ys) x =
    rw (any_push p ys x)
    (since_step x y ys (since p ys) (since p (ys ++ x ∷ [])) (p x) (list_any p ys) (p y) (since_push p ys x))

-- two tests that agree below n agree on whether some number below n passes
pub any_below_same : (n : ℕ) (p q : ℕ → Bool) → ((i : ℕ) → i < n → p i ≡ q i) → any_below n p ≡ any_below n q
unfolding any_below
any_below_same zero p q h = refl
any_below_same (suc n) p q h =
    let here : p n ≡ q n = h n (omega arith) in
    let rest : any_below n p ≡ any_below n q = any_below_same n p q (λ i lt. h i (omega arith)) in
    cc

pub last_below_same : {A : Type 0} (n : ℕ) (f g : ℕ → Option A) → ((i : ℕ) → i < n → f i ≡ g i)
    → last_below n f ≡ last_below n g
unfolding last_below
last_below_same zero f g h = refl
last_below_same (suc n) f g h =
    let here : f n ≡ g n = h n (omega arith) in
    let rest : last_below n f ≡ last_below n g = last_below_same n f g (λ i lt. h i (omega arith)) in
    cc

-- an item keeps its position if more items follow
pub get_before : {X : Type 0} (xs ys : List X) (i : ℕ) → i < length xs → slice_get (xs ++ ys) i ≡ slice_get xs i
get_before [] ys i h = absurd (omega arith)
get_before (x ∷ xs) ys zero h = refl
get_before (x ∷ xs) ys (suc i) h = get_before xs ys i (omega arith)

-- the new item is at the end
pub get_end : {X : Type 0} (xs : List X) (x : X) → slice_get (xs ++ x ∷ []) (length xs) ≡ Some x
get_end [] x = refl
get_end (y ∷ ys) x = get_end ys x

length_push : {X : Type 0} (xs : List X) (x : X) → length (xs ++ x ∷ []) ≡ suc (length xs)
length_push xs x = simp length-append (omega arith)

at_before : {X A : Type 0} (f : List X → X → Option A) (xs : List X) (x : X) (i : ℕ) → i < length xs
    → at_position f (xs ++ x ∷ []) i ≡ at_position f xs i
unfolding at_position
at_before f xs x i h =
    let le : i ≤ length xs = omega arith in rw (get_before xs (x ∷ []) i h, take-append-le i xs (x ∷ []) le)

at_end : {X A : Type 0} (f : List X → X → Option A) (xs : List X) (x : X)
    → at_position f (xs ++ x ∷ []) (length xs) ≡ f xs x
unfolding at_position
at_end f xs x = rw (get_end xs x, take-append_seam xs (x ∷ []))

-- the last result by position, with one more item at the end
pub last_at_push : {X A : Type 0} (f : List X → X → Option A) (xs : List X) (x : X)
    → last_at f (xs ++ x ∷ []) ≡ option_or (f xs x) (last_at f xs)
unfolding last_at last_below
last_at_push f xs x =
    rw (length_push xs x)
    (ap (λ o. option_or o (last_below (length xs) (at_position f (xs ++ x ∷ [])))) (at_end f xs x)
    ∙ ap (option_or (f xs x)) (last_below_same (length xs) _ _ (at_before f xs x)))

passes_before : {X : Type 0} (p : List X → X → Bool) (xs : List X) (x : X) (i : ℕ) → i < length xs
    → passes_at p (xs ++ x ∷ []) i ≡ passes_at p xs i
unfolding passes_at
passes_before p xs x i h =
    let le : i ≤ length xs = omega arith in rw (get_before xs (x ∷ []) i h, take-append-le i xs (x ∷ []) le)

passes_end : {X : Type 0} (p : List X → X → Bool) (xs : List X) (x : X)
    → passes_at p (xs ++ x ∷ []) (length xs) ≡ p xs x
unfolding passes_at
passes_end p xs x = rw (get_end xs x, take-append_seam xs (x ∷ []))

-- whether some item passes, with one more item at the end
pub any_at_push : {X : Type 0} (p : List X → X → Bool) (xs : List X) (x : X)
    → any_at p (xs ++ x ∷ []) ≡ (p xs x || any_at p xs)
unfolding any_at any_below
any_at_push p xs x =
    rw (length_push xs x)
    (ap (λ o. o || any_below (length xs) (passes_at p (xs ++ x ∷ []))) (passes_end p xs x)
    ∙ ap (λ o. p xs x || o) (any_below_same (length xs) _ _ (passes_before p xs x)))

-- what holds at an earlier position still holds there with one more item at the end
pub holds_before : {X : Type 0} (P : List X → X → Type 0) (xs : List X) (x : X) (i : ℕ) → i < length xs
    → HoldsAtPosition P xs i → HoldsAtPosition P (xs ++ x ∷ []) i
holds_before P xs x i lt h =
    let le : i ≤ length xs = omega arith in
    record {
      item = h.item;
      here = get_before xs (x ∷ []) i lt ∙ h.here;
      holds = subst (λ (t : List _). P t h.item) (sym (take-append-le i xs (x ∷ []) le)) h.holds;
    }

-- what holds for the new item holds at the end
pub holds_end : {X : Type 0} (P : List X → X → Type 0) (xs : List X) (x : X) → P xs x
    → HoldsAtPosition P (xs ++ x ∷ []) (length xs)
holds_end P xs x h = record {
  item = x;
  here = get_end xs x;
  holds = subst (λ (t : List _). P t x) (sym (take-append_seam xs (x ∷ []))) h;
}

-- a position at which something holds is below the length
pub holds_within : {X : Type 0} (P : List X → X → Type 0) (xs : List X) (i : ℕ) → HoldsAtPosition P xs i → i < length xs
holds_within P xs i h = slice_get_within xs i h.item h.here

holds_back : {X : Type 0} (P : List X → X → Type 0) (xs : List X) (x : X) (i : ℕ) → i < length xs
    → HoldsAtPosition P (xs ++ x ∷ []) i → HoldsAtPosition P xs i
holds_back P xs x i lt h =
    let le : i ≤ length xs = omega arith in
    record {
      item = h.item;
      here = sym (get_before xs (x ∷ []) i lt) ∙ h.here;
      holds = subst (λ (t : List _). P t h.item) (take-append-le i xs (x ∷ []) le) h.holds;
    }

holds_there : {X : Type 0} (P : List X → X → Type 0) (xs : List X) (x : X) (i : ℕ) → i ≡ length xs
    → HoldsAtPosition P (xs ++ x ∷ []) i → P xs x
holds_there P xs x i e h =
    let item : h.item ≡ x = some_same _ _ (sym h.here ∙ ap (slice_get (xs ++ x ∷ [])) e ∙ get_end xs x) in
    subst (P xs) item
    (subst (λ (t : List _). P t h.item) (ap (λ (n : ℕ). take n (xs ++ x ∷ [])) e ∙ take-append_seam xs (x ∷ []))
    h.holds)
  where
    some_same : {A : Type 0} (a b : A) → Some a ≡ Some b → a ≡ b
    some_same a b h = cc

-- what holds in the longer list holds at an earlier position, or for the new item
pub holds_push : {X : Type 0} (P : List X → X → Type 0) (xs : List X) (x : X) (i : ℕ)
    → HoldsAtPosition P (xs ++ x ∷ []) i → ((i < length xs) × HoldsAtPosition P xs i) ⊎ ((i ≡ length xs) × P xs x)
holds_push P xs x i h =
    let lt : i < suc (length xs) = subst (λ (n : ℕ). i < n) (length_push xs x) (holds_within P (xs ++ x ∷ []) i h) in
    let le : i ≤ length xs = omega arith in
    elim (eq-or-lt_of_le le) [
      | inl e ↦ inr (e, holds_there P xs x i e h)
      | inr l ↦ inl (l, holds_back P xs x i l h)
    ]
