-- Events with the one after each, and one more event.
use Rattle.std.proofs.Common.{◌≡◌, ◌<◌, ◌≤◌, ◌+◌, ℕ, zero, suc, Bool, false, ◌||◌, Option, Some, None, List, [], ◌∷◌}
use Rattle.std.proofs.Common.{◌++◌, length, take, refl, ap₂, add-one, arith, length-append}
use Rattle.std.specs.Prelude.{slice_get}
use Rattle.std.specs.Option.{option_and_then, option_map_or, option_or, option_to_list}
use Rattle.std.proofs.lemmas.List.{take-append-le}
use Rattle.std.proofs.Math.Seq.{take-append_seam}
use Rattle.sixel_grammar.specs.declared.command.Event.{Event}
use Rattle.sixel_model.specs.Positions.{any_below}
use Rattle.sixel_model.proofs.PositionLemmas.{any_below_same, get_before, get_end}
use Rattle.sixel_konsole.specs.Konsole.{any_followed, event_after, first_below, first_followed}

pub length_push : (xs : List Event) (x : Event) → length (xs ++ x ∷ []) ≡ suc (length xs)
length_push xs x = simp length-append (omega arith)

-- ---- the event after

after_last : (xs : List Event) (e : Event) (next : Option Event)
    → slice_get ((xs ++ e ∷ []) ++ option_to_list next) (suc (length xs)) ≡ next
after_last [] e None = refl
after_last [] e (Some d) = refl
after_last (x ∷ xs) e next = after_last xs e next

pub after_end : (xs : List Event) (e : Event) (next : Option Event)
    → event_after (xs ++ e ∷ []) next (length xs) ≡ next
after_end xs e next = rw add-one (after_last xs e next)

pub after_before : (xs : List Event) (e : Event) (next : Option Event) (i : ℕ) → i < length xs
    → event_after (xs ++ e ∷ []) next i ≡ event_after xs (Some e) i
after_before xs e next i lt =
    let long : length (xs ++ e ∷ []) ≡ suc (length xs) = length_push xs e in
    get_before (xs ++ e ∷ []) (option_to_list next) (i + 1) (omega (arith, long, lt))

-- ---- whether some event passes

pub any_followed_push : (p : List Event → Event → Option Event → Bool) (xs : List Event) (e : Event)
    (next : Option Event) → any_followed p (xs ++ e ∷ []) next ≡ (p xs e next || any_followed p xs (Some e))
unfolding any_followed any_below
any_followed_push p xs e next =
    let at = λ (ys : List Event) (n : Option Event) (i : ℕ). option_map_or
    (λ d. p (take i ys) d (event_after ys n i)) (slice_get ys i) false in
    let here : at (xs ++ e ∷ []) next (length xs) ≡ p xs e next =
    rw (get_end xs e, after_end xs e next, take-append_seam xs (e ∷ [])) refl in
    let rest : (i : ℕ) → i < length xs → at (xs ++ e ∷ []) next i ≡ at xs (Some e) i = λ i lt.
    let le : i ≤ length xs = omega arith in
    rw (get_before xs (e ∷ []) i lt, after_before xs e next i lt, take-append-le i xs (e ∷ []) le) refl in
    rw (length_push xs e)
    (ap₂ (λ (a b : Bool). a || b) here
    (any_below_same (length xs) (at (xs ++ e ∷ []) next) (at xs (Some e)) rest))

-- ---- the first event that has a result

first_below_same : {A : Type 0} (n : ℕ) (f g : ℕ → Option A) → ((i : ℕ) → i < n → f i ≡ g i)
    → first_below n f ≡ first_below n g
unfolding first_below
first_below_same zero f g h = refl
first_below_same (suc n) f g h =
    let here : f n ≡ g n = h n (omega arith) in
    let rest : first_below n f ≡ first_below n g = first_below_same n f g (λ i lt. h i (omega arith)) in
    cc

pub first_followed_push : {A : Type 0} (f : List Event → Event → Option Event → Option A) (xs : List Event) (e : Event)
    (next : Option Event)
    → first_followed f (xs ++ e ∷ []) next ≡ option_or (first_followed f xs (Some e)) (f xs e next)
unfolding first_followed first_below
first_followed_push {A} f xs e next =
    let at = λ (ys : List Event) (n : Option Event) (i : ℕ). option_and_then
    (λ d. f (take i ys) d (event_after ys n i)) (slice_get ys i) in
    let here : at (xs ++ e ∷ []) next (length xs) ≡ f xs e next =
    rw (get_end xs e, after_end xs e next, take-append_seam xs (e ∷ [])) refl in
    let rest : (i : ℕ) → i < length xs → at (xs ++ e ∷ []) next i ≡ at xs (Some e) i = λ i lt.
    let le : i ≤ length xs = omega arith in
    rw (get_before xs (e ∷ []) i lt, after_before xs e next i lt, take-append-le i xs (e ∷ []) le) refl in
    rw (length_push xs e)
    (ap₂ (λ (a b : Option A). option_or a b)
    (first_below_same (length xs) (at (xs ++ e ∷ []) next) (at xs (Some e)) rest) here)
