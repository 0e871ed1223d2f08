-- What is known before an event.
use Rattle.std.proofs.Common.{◌≡◌, ℕ, zero, suc, ◌+◌, Bool, true, false, cond, Option, Some, None, List, [], ◌∷◌, take}
use Rattle.std.proofs.Common.{refl, ap, ◌∙◌, subst}
use Rattle.std.specs.List.{fold}
use Rattle.std.proofs.lemmas.Bool.{eqb-true}
use Rattle.std.specs.Prelude.{slice_get, IsSome, IfSome, sum_by}
use Rattle.std.specs.Option.{option_or, option_and_then}
use Rattle.std.specs.Bool.{then_some}
use Rattle.std.specs.List.{list_any, AllByRecursion}
use Rattle.sixel_grammar.specs.declared.command.Event.{Event}
use Rattle.sixel_model.specs.Positions.{latest, earliest, since}
use Rattle.sixel_model.specs.Events.{select_of, named_by}
use Rattle.sixel_model.specs.Rules.{known, is_that}

-- the register is known: it was selected last, and it was named last
pub record Known (before : List Event) (r : ℕ) : Type 0 where
  pub selected : latest select_of before ≡ Some r
  pub named : latest named_by before ≡ Some r

that_is : (r : ℕ) (o : Option ℕ) → is_that r o ≡ true → o ≡ Some r
that_is r None h = cc
that_is r (Some q) h = ap Some (eqb-true q r h)

known_if : (o p : Option ℕ) (r : ℕ) → option_and_then (λ q. then_some (is_that q p) q) o ≡ Some r
    → (o ≡ Some r) × (p ≡ Some r)
known_if None p r h = cc
known_if (Some q) p r h = split (is_that q p) refl h
  where
    split : (b : Bool) → is_that q p ≡ b → then_some b q ≡ Some r → (Some q ≡ Some r) × (p ≡ Some r)
    split true e h = (h, that_is q p e ∙ h)
    split false e h = cc

pub known_is : (before : List Event) (r : ℕ) → known before ≡ Some r → Known before r
unfolding known
known_is before r h =
    let both : (latest select_of before ≡ Some r) × (latest named_by before ≡ Some r) =
    known_if (latest select_of before) (latest named_by before) r h
    in record { selected = both.0; named = both.1 }

or_some : {A : Type 0} (o p : Option A) → IsSome p → IsSome (option_or o p)
or_some None p h = h
or_some (Some x) p h = refl

or_some_left : {A : Type 0} (o p : Option A) → IsSome o → IsSome (option_or o p)
or_some_left (Some x) p h = refl
or_some_left None p h = cc

earliest_step : {A : Type 0} (o p q : Option A) → (IsSome q → IsSome p) → IsSome (option_or o q)
    → IsSome (option_or p o)
earliest_step None p q ih h = or_some_left p None (ih h)
earliest_step (Some a) p q ih h = or_some p (Some a) refl

-- if there is a first result, there is a last one
pub earliest_is_some : {X A : Type 0} (f : X → Option A) (xs : List X) → IsSome (earliest f xs) → IsSome (latest f xs)
unfolding latest earliest
earliest_is_some f [] h = h
earliest_is_some f (x ∷ xs) h = earliest_step (f x) (latest f xs) (earliest f xs) (earliest_is_some f xs) h

or_each : {A : Type 0} (P : A → Type 0) (o p : Option A) → IfSome o P → IfSome p P → IfSome (option_or o p) P
or_each P None p h k = k
or_each P (Some x) p h k = h

-- what holds for each result of f holds for the last one
pub latest_each : {X A : Type 0} (f : X → Option A) (P : A → Type 0) (xs : List X)
    → AllByRecursion (λ x. IfSome (f x) P) xs → IfSome (latest f xs) P
unfolding latest
latest_each f P [] h = tt
latest_each f P (x ∷ xs) h = or_each P (latest f xs) (f x) (latest_each f P xs h.1) h.0

fold_same : {X : Type 0} (f g : X → ℕ) (n : ℕ) (xs : List X) → AllByRecursion (λ x. f x ≡ g x) xs
    → fold (λ a x. a + f x) n xs ≡ fold (λ a x. a + g x) n xs
fold_same f g n [] h = refl
fold_same f g n (x ∷ xs) h = rw h.0 (fold_same f g (n + g x) xs h.1)

pub sum_same : {X : Type 0} (f g : X → ℕ) (xs : List X) → AllByRecursion (λ x. f x ≡ g x) xs → sum_by f xs ≡ sum_by g xs
sum_same f g xs h = fold_same f g 0 xs h

since_split : {X : Type 0} (f g : X → ℕ) (s xs : List X) (x : X) (a b : Bool) → sum_by f s ≡ sum_by g s
    → sum_by f xs ≡ sum_by g xs → sum_by f (x ∷ xs) ≡ sum_by g (x ∷ xs) →
    sum_by f (cond a s (cond b xs (x ∷ xs))) ≡ sum_by g (cond a s (cond b xs (x ∷ xs)))
since_split f g s xs x true b h k l = h
since_split f g s xs x false true h k l = k
since_split f g s xs x false false h k l = l

-- sums of equal widths since the last item that passes are equal
pub sum_since_same : {X : Type 0} (p : X → Bool) (f g : X → ℕ) (xs : List X) → AllByRecursion (λ x. f x ≡ g x) xs
    → sum_by f (since p xs) ≡ sum_by g (since p xs)
unfolding since
sum_since_same p f g [] h = refl
sum_since_same p f g (x ∷ xs) h =
    since_split f g (since p xs) xs x (list_any p xs) (p x) (sum_since_same p f g xs h.1) (sum_same f g xs h.1)
    (sum_same f g (x ∷ xs) h)

-- what holds for each item holds for those before a position, and for the one there
pub each_before : {X : Type 0} (P : X → Type 0) (i : ℕ) (xs : List X) → AllByRecursion P xs
    → AllByRecursion P (take i xs)
each_before P zero xs h = tt
each_before P (suc i) [] h = tt
each_before P (suc i) (x ∷ xs) h = (h.0, each_before P i xs h.1)

pub each_there : {X : Type 0} (P : X → Type 0) (i : ℕ) (xs : List X) (x : X) → AllByRecursion P xs
    → slice_get xs i ≡ Some x → P x
each_there P i [] x h e = cc
each_there P zero (y ∷ ys) x h e = let same : y ≡ x = cc in subst P same h.0
each_there P (suc i) (y ∷ ys) x h e = each_there P i ys x h.1 e
