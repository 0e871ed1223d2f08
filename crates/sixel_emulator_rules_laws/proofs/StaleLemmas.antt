-- If no definition comes after a select, the selected register keeps its colour.
use Rattle.std.proofs.Common.{◌≡◌, ℕ, Bool, true, Option, Some, None, List, [], ◌∷◌, ◌++◌, take, refl, sym, ap}
use Rattle.std.proofs.Common.{subst, ◌∙◌, append_assoc, append-nil}
use Rattle.std.specs.Prelude.{◌==◌, IsSome}
use Rattle.std.specs.Option.{option_and_then, option_flatten, option_map, option_or}
use Rattle.sixel_grammar.specs.declared.command.Command.TheVariants.{Define}
use Rattle.sixel_grammar.specs.declared.command.Event.{Event}
use Rattle.sixel_grammar.specs.declared.command.Event.TheVariants.{Step}
use Rattle.sixel_model.specs.declared.colour.Parts.{Parts}
use Rattle.sixel_model.specs.Events.{Definition, definition_where, select_of}
use Rattle.sixel_model.specs.Positions.{last_at, latest}
use Rattle.sixel_model.specs.Rules.{colour_by, colour_of, definition_of}
use Rattle.sixel_model.proofs.KnownLemmas.{known_is}
use Rattle.sixel_model.proofs.PositionLemmas.{last_at_push, latest_push}
use Rattle.sixel_model.proofs.StepLemmas.{definition_push}
use Rattle.sixel_emulator_rules_laws.specs.Laws.{FirstIsNotStale}
use Rattle.sixel_emulator_rules.specs.Stale.{IsStale, colour_at_select}
use Rattle.sixel_emulator_rules_laws.specs.Stale.{DefinesFirst, IsLateDefinition}
use Rattle.sixel_emulator_rules_laws.proofs.FirstLemmas.{IsNoDefinition, defines_before, defines_taken, last_not_late}

-- what holds of a list, and stays so with one more item at its end, holds with any more
pub by_pushes : {X : Type 0} (P : List X → Type 0) (xs ys : List X)
    → ((zs : List X) (z : X) → P zs → P (zs ++ z ∷ [])) → P xs → P (xs ++ ys)
by_pushes P xs [] step p = rw append-nil p
by_pushes P xs (y ∷ ys) step p =
    subst P (append_assoc xs (y ∷ []) ys) (by_pushes P (xs ++ y ∷ []) ys step (step xs y p))

-- ---- one more event

none_where : (p : ℕ → Bool) (e : Event) → IsNoDefinition e → definition_where p e ≡ None
none_where p (Step (Define r s x y z)) h = cc
none_where p _ h = refl

none_late : (e : Event) → ¬ IsSome (definition_where (λ r. true) e) → IsNoDefinition e
none_late (Step (Define r s x y z)) h = absurd (h refl)
none_late _ h = refl

select_defines_none : (e : Event) (q : ℕ) → select_of e ≡ Some q → IsNoDefinition e
select_defines_none (Step (Define r s x y z)) q h = cc
select_defines_none _ q h = refl

colour_still : (before : List Event) (e : Event) (r : ℕ) → IsNoDefinition e
    → colour_of (before ++ e ∷ []) r ≡ colour_of before r
unfolding colour_of
colour_still before e r none =
    ap (option_and_then colour_by)
    (definition_push before e r
    ∙ ap (λ (o : Option Definition). option_or o (definition_of before r)) (none_where (λ q. q == r) e none))

-- the colour of the register, if the event selects one
abbrev at_select : ℕ → List Event → Event → Option (Option Parts)
at_select r earlier e = option_map (λ (q : ℕ). colour_of earlier r) (select_of e)

at_select_push : (before : List Event) (e : Event) (r : ℕ)
    → colour_at_select (before ++ e ∷ []) r
    ≡ option_flatten (option_or (at_select r before e) (last_at (at_select r) before))
unfolding colour_at_select
at_select_push before e r = ap option_flatten (last_at_push (at_select r) before e)

pub at_select_anew : (before : List Event) (e : Event) (r q : ℕ) → select_of e ≡ Some q
    → colour_at_select (before ++ e ∷ []) r ≡ colour_of before r
at_select_anew before e r q is = at_select_push before e r ∙ rw is refl

pub at_select_still : (before : List Event) (e : Event) (r : ℕ) → select_of e ≡ None
    → colour_at_select (before ++ e ∷ []) r ≡ colour_at_select before r
unfolding colour_at_select
at_select_still before e r is = at_select_push before e r ∙ rw is refl

-- ---- the register that is selected

-- it has the colour that it had when it was selected
abbrev IsFresh : List Event → Type 0
IsFresh before = (r : ℕ) → latest select_of before ≡ Some r → colour_of before r ≡ colour_at_select before r

fresh_by : (before : List Event) (e : Event) (o : Option ℕ) → select_of e ≡ o → IsFresh before
    → ¬ IsLateDefinition before e → IsFresh (before ++ e ∷ [])
fresh_by before e (Some q) is fresh late r last =
    colour_still before e r (select_defines_none e q is) ∙ sym (at_select_anew before e r q is)
fresh_by before e None is fresh late r last =
    let there : latest select_of before ≡ Some r = sym (latest_push select_of before e ∙ rw is refl) ∙ last in
    colour_still before e r (none_late e (λ d. late (record { after = rw there refl; defines = d })))
    ∙ (fresh r there ∙ sym (at_select_still before e r is))

is_fresh : (events : List Event) → DefinesFirst events → IsFresh events
unfolding latest
is_fresh events first =
    by_pushes (λ (b : List Event). DefinesFirst b → IsFresh b) [] events
    (λ before e fresh one.
    fresh_by before e (select_of e) refl (fresh (defines_before before e one)) (last_not_late before e one))
    (λ none r is. cc) first

stays : (events : List Event) (i : ℕ) (e : Event) → DefinesFirst events → ¬ IsStale (take i events) e
stays events i e first stale =
    stale.differs
    (is_fresh (take i events) (defines_taken events i first) stale.register
    (known_is (take i events) stale.register stale.is_known).selected)

pub first_is_not_stale : FirstIsNotStale
first_is_not_stale events first i stale = stays events i stale.item first stale.holds
