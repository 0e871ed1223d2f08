-- Lists in which no definition comes after a select.
use Rattle.std.proofs.Common.{◌≡◌, ℕ, zero, suc, ◌-◌, ◌<◌, ◌≤◌, inl, inr, true, false, Some, None, List, [], ◌∷◌}
use Rattle.std.proofs.Common.{◌++◌, length, take, refl, sym, ap, subst, ◌∙◌, arith}
use Rattle.std.specs.Prelude.{slice_get}
use Rattle.std.specs.List.{AllByRecursion}
use Rattle.std.proofs.lemmas.List.{take-append-le}
use Rattle.std.proofs.lemmas.Bool.{cases_lt}
use Rattle.sixel_grammar.specs.declared.command.Event.{Event}
use Rattle.sixel_model.specs.Events.{definition_where, select_of}
use Rattle.sixel_model.specs.Positions.{HoldsAtPosition, latest}
use Rattle.sixel_model.proofs.PositionLemmas.{holds_before, holds_end, holds_within}
use Rattle.sixel_judge.proofs.AlarmLemmas.{taken_there, taken_twice}
use Rattle.sixel_emulator_rules_laws.specs.Stale.{DefinesFirst, IsLateDefinition}

-- ---- prefixes

-- a prefix defines first too
pub defines_taken : (events : List Event) (i : ℕ) → DefinesFirst events → DefinesFirst (take i events)
defines_taken events i first j late =
    let there : (j < i) × (slice_get events j ≡ Some late.item) = taken_there i j events late.item late.here in
    let below : j < i = there.0 in
    let le : j ≤ i = omega arith in
    first j (record {
      item = late.item;
      here = there.1;
      holds = subst (λ (b : List Event). IsLateDefinition b late.item) (taken_twice j i events le) late.holds;
    })

pub defines_before : (xs : List Event) (x : Event) → DefinesFirst (xs ++ x ∷ []) → DefinesFirst xs
defines_before xs x first i late =
    first i (holds_before IsLateDefinition xs x i (holds_within IsLateDefinition xs i late) late)

pub last_not_late : (xs : List Event) (x : Event) → DefinesFirst (xs ++ x ∷ []) → ¬ IsLateDefinition xs x
last_not_late xs x first late = first (length xs) (holds_end IsLateDefinition xs x late)

-- ---- first events that select nothing, then events that define nothing

-- the event selects nothing
abbrev pub IsNoSelect : Event → Type 0
IsNoSelect e = select_of e ≡ None

-- the event defines nothing
abbrev pub IsNoDefinition : Event → Type 0
IsNoDefinition e = definition_where (λ r. true) e ≡ None

none_selected : (i : ℕ) (xs : List Event) → AllByRecursion IsNoSelect xs → latest select_of (take i xs) ≡ None
unfolding latest
none_selected zero xs h = refl
none_selected (suc i) [] h = refl
none_selected (suc i) (x ∷ xs) h = rw (none_selected i xs h.1, h.0) refl

none_defined : (ys : List Event) (i : ℕ) (e : Event) → AllByRecursion IsNoDefinition ys → slice_get ys i ≡ Some e
    → IsNoDefinition e
none_defined [] i e h here = cc
none_defined (y ∷ ys) zero e h here = let same : y ≡ e = cc in subst IsNoDefinition same h.0
none_defined (y ∷ ys) (suc i) e h here = none_defined ys i e h.1 here

-- an item past the first list is one of the second
get_after : (xs ys : List Event) (i : ℕ) → length xs ≤ i → slice_get (xs ++ ys) i ≡ slice_get ys (i - length xs)
get_after [] ys i l = ap (slice_get ys) (let e : i ≡ i - 0 = omega arith in e)
get_after (x ∷ xs) ys zero l = absurd (omega arith)
get_after (x ∷ xs) ys (suc i) l =
    get_after xs ys i (omega arith)
    ∙ ap (slice_get ys) (let e : i - length xs ≡ suc i - suc (length xs) = omega arith in e)

late_before : (xs ys : List Event) (i : ℕ) → AllByRecursion IsNoSelect xs → i ≤ length xs
    → ¬ HoldsAtPosition IsLateDefinition (xs ++ ys) i
late_before xs ys i h l late =
    let none : latest select_of (take i (xs ++ ys)) ≡ None
    = ap (latest select_of) (take-append-le i xs ys l) ∙ none_selected i xs h in
    let no : false ≡ true = rw none at (late.holds).after in
    cc

late_after : (xs ys : List Event) (i : ℕ) → AllByRecursion IsNoDefinition ys → length xs ≤ i
    → ¬ HoldsAtPosition IsLateDefinition (xs ++ ys) i
late_after xs ys i h l late =
    let none : IsNoDefinition late.item
    = none_defined ys (i - length xs) late.item h (sym (get_after xs ys i l) ∙ late.here) in
    let no : false ≡ true = rw none at (late.holds).defines in
    cc

pub parts_define_first : (xs ys : List Event) → AllByRecursion IsNoSelect xs → AllByRecursion IsNoDefinition ys
    → DefinesFirst (xs ++ ys)
parts_define_first xs ys h k i late = elim (cases_lt i (length xs)) [
  | inl low ↦ late_before xs ys i h (omega (arith, low)) late
  | inr high ↦ late_after xs ys i k (omega (arith, high)) late
]
