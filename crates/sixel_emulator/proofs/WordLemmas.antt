-- What rules ask of events, with one more event.
use Rattle.std.proofs.Common.{zero, suc, ◌≤◌, ◌<◌, length, ◌≡◌, ℕ, Bool, ◌||◌, Option}
use Rattle.std.proofs.Common.{Some, None, List, [], ◌∷◌, ◌++◌, max, refl, ap, ◌∙◌, arith}
use Rattle.std.specs.Prelude.{unwrap_or}
use Rattle.std.specs.Option.{option_or}
use Rattle.std.specs.List.{list_any}
use Rattle.sixel_grammar.specs.declared.command.Event.{Event}
use Rattle.sixel_model.specs.Positions.{latest}
use Rattle.std.proofs.Math.Bool.{or-false}
use Rattle.std.proofs.lemmas.List.{take-append-le, length-append}
use Rattle.std.proofs.Math.Seq.{take-append_seam}
use Rattle.std.proofs.lemmas.List.Folds.{list_any-append}
use Rattle.sixel_model.proofs.PositionLemmas.{get_before, get_end, latest_push}
use Rattle.sixel_emulator.specs.Words.{after_each, after_first, greatest, second_of, second_parameter}

greater_of : (a b c : ℕ) → max a (max b c) ≡ max (max a b) c
greater_of a b c = omega arith

pub greatest_push : (f : Event → ℕ) (before : List Event) (e : Event)
    → greatest f (before ++ e ∷ []) ≡ max (greatest f before) (f e)
unfolding greatest
greatest_push f [] e = omega arith
greatest_push f (b ∷ bs) e = ap (max (f b)) (greatest_push f bs e) ∙ greater_of (f b) (greatest f bs) (f e)

pub or_default : {A : Type 0} (o p : Option A) (d : A) → unwrap_or (option_or o p) d ≡ unwrap_or o (unwrap_or p d)
or_default None p d = refl
or_default (Some a) p d = refl

pub second_push : (before : List Event) (e : Event)
    → second_parameter (before ++ e ∷ []) ≡ unwrap_or (second_of e) (second_parameter before)
second_push before e =
    ap (λ (o : Option ℕ). unwrap_or o 0) (latest_push second_of before e)
    ∙ or_default (second_of e) (latest second_of before) 0

pub any_push : (p : Event → Bool) (before : List Event) (e : Event)
    → list_any p (before ++ e ∷ []) ≡ (list_any p before || p e)
any_push p before e = list_any-append p before (e ∷ []) ∙ ap (λ (b : Bool). list_any p before || b) (or-false (p e))

-- ---- what becomes of a value

first_before : {S : Type 0} (step : S → List Event → Event → S) (start : S) (n : ℕ) (before : List Event) (e : Event)
    → n ≤ length before → after_first n step start (before ++ e ∷ []) ≡ after_first n step start before
unfolding after_first
first_before step start zero before e le = refl
first_before step start (suc n) before e le =
    let lt : n < length before = omega arith in
    let less : n ≤ length before = omega arith in
    rw (get_before before (e ∷ []) n lt, take-append-le n before (e ∷ []) less, first_before step start n before e less)
    refl

pub each_push : {S : Type 0} (step : S → List Event → Event → S) (start : S) (before : List Event) (e : Event)
    → after_each step start (before ++ e ∷ []) ≡ step (after_each step start before) before e
unfolding after_each after_first
each_push step start before e =
    let long : length (before ++ e ∷ []) ≡ suc (length before) = simp length-append (omega arith) in
    let here : length before ≤ length before = omega arith in
    rw (long, get_end before e, take-append_seam before (e ∷ []), first_before step start (length before) before e here)
    refl
