-- On registers that a command painted in: if no rule is broken, they keep their colours.
use Rattle.std.proofs.Common.{◌≡◌, ◌<◌, ◌≤◌, ◌+◌, ◌-◌, ℕ, zero, suc, Bool, true, false, ◌&&◌, cond, not, Some, None}
use Rattle.std.proofs.Common.{List, [], ◌∷◌, ◌++◌, length, take, refl, ap, ◌∙◌, arith, add-zero, add-suc}
use Rattle.std.specs.Prelude.{◌==◌, slice_get, IsFalse, IsSome}
use Rattle.std.specs.List.{AllByRecursion}
use Rattle.std.specs.Option.{option_or}
use Rattle.std.proofs.lemmas.Bool.{and_parts, eq-eqb, eqb-true, not-false, or_right}
use Rattle.std.proofs.lemmas.Option.{slice_get_within}
use Rattle.std.proofs.Math.Seq.{take-length}
use Rattle.sixel_grammar.specs.declared.command.Command.TheVariants.{Define}
use Rattle.sixel_grammar.specs.declared.command.Event.{Event}
use Rattle.sixel_grammar.specs.declared.command.Event.TheVariants.{Step}
use Rattle.sixel_model.specs.Colours.{palette_at}
use Rattle.sixel_model.specs.Events.{Definition, definition_where, is_painting, is_same_definition}
use Rattle.sixel_model.specs.Rules.{BreaksNone, breaks_redefined, breaks_undefined, colour_of, definition_of}
use Rattle.sixel_model.specs.Rules.{is_painted_in, is_that, known, picture_left}
use Rattle.sixel_model.proofs.KnownLemmas.{each_before}
use Rattle.sixel_model.proofs.LastLemmas.{item_there}
use Rattle.sixel_model.proofs.LatestLemmas.{take_one_more}
use Rattle.sixel_model.proofs.LeftLemmas.{left_at}
use Rattle.sixel_model.proofs.RuleLemmas.{Keeps, keeps_at}
use Rattle.sixel_model.proofs.StepLemmas.{definition_push, painted_in_push}
use Rattle.sixel_model.specs.declared.rule.Rule.TheVariants.{Uncovered}
use Rattle.sixel_terminal.specs.Drawing.{map_on}
use Rattle.sixel_judge.specs.Laws.{PaintedColourIsLeft}
use Rattle.sixel_judge.proofs.ColourLemmas.{IsSound, each_sound, known_in_range, made, map_defined}
use Rattle.sixel_judge.proofs.OptionLemmas.{some_from, some_value}

-- ---- a definition of a register that a command painted in

same_definition : (d e : Definition) → is_same_definition d e ≡ true → e ≡ d
same_definition d e h =
    let last : (((d.system == e.system) && (d.x == e.x) && (d.y == e.y)) ≡ true) × ((d.z == e.z) ≡ true)
    = and_parts _ _ h in
    let third : (((d.system == e.system) && (d.x == e.x)) ≡ true) × ((d.y == e.y) ≡ true) = and_parts _ _ last.0 in
    let two : ((d.system == e.system) ≡ true) × ((d.x == e.x) ≡ true) = and_parts _ _ third.0 in
    let same : made e.system e.x e.y e.z ≡ made d.system d.x d.y d.z =
    cc (
      eqb-true d.system e.system two.0,
      eqb-true d.x e.x two.1,
      eqb-true d.y e.y third.1,
      eqb-true d.z e.z last.1,
    ) in
    same

redefine_step : (before : List Event) (q r s x y z : ℕ) (d : Definition) (b : Bool) → (b ≡ true → q ≡ r)
    → IsFalse (breaks_redefined before (Step (Define q s x y z))) → definition_of before r ≡ Some d
    → is_painted_in before r ≡ true → option_or (cond b (Some (made s x y z)) None) (definition_of before r) ≡ Some d
unfolding breaks_redefined
redefine_step before q r s x y z d false same kept defined painted = defined
redefine_step before q r s x y z d true same kept defined painted =
    let e : q ≡ r = same refl in
    let at_q : definition_of before q ≡ Some d = rw e defined in
    let painted_q : is_painted_in before q ≡ true = rw e painted in
    let alike : not (is_same_definition d (made s x y z)) ≡ false = rw (painted_q, at_q) at kept in
    ap Some (same_definition d (made s x y z) (not-false _ alike))

-- one more event doesn't change the definition of a register that a command painted in
steady_step : {n : ℕ} (r : ℕ) {before : List Event} (x : Event) (d : Definition) → Keeps n before x
    → definition_of before r ≡ Some d → is_painted_in before r ≡ true
    → option_or (definition_where (λ q. q == r) x) (definition_of before r) ≡ Some d
steady_step r {before} (Step (Define q s x y z)) d k defined painted =
    redefine_step before q r s x y z d (q == r) (eqb-true q r) k.redefined defined painted
steady_step r _ d k defined painted = defined

-- a command painted in the register, and this is its last definition
pub record IsSteady (r : ℕ) (d : Definition) (before : List Event) : Type 0 where
  pub defined : definition_of before r ≡ Some d
  pub painted : is_painted_in before r ≡ true

steady_push : {n r : ℕ} {before : List Event} {x : Event} {d : Definition} → Keeps n before x → IsSteady r d before
    → IsSteady r d (before ++ x ∷ [])
steady_push {r} {before} {x} {d} k s = record {
  defined = definition_push before x r ∙ steady_step r x d k s.defined s.painted;
  painted = painted_in_push before x r ∙ or_right (is_painting x && is_that r (known before)) _ s.painted;
}

-- the same up to any later position
steady_on : (n : ℕ) {r : ℕ} (events : List Event) {d : Definition} → BreaksNone n Uncovered events → (i k : ℕ)
    → i + k ≤ length events → IsSteady r d (take i events) → IsSteady r d (take (i + k) events)
steady_on n events none i zero le s = rw (add-zero i) s
steady_on n {r} events {d} none i (suc k) le s =
    let lt : i + k < length events = omega arith in
    let x : (x : Event) × (slice_get events (i + k) ≡ Some x) = item_there events (i + k) lt in
    let here : slice_get events (i + k) ≡ Some (x.0) = x.1 in
    let before : IsSteady r d (take (i + k) events) = steady_on n events none i k (omega arith) s in
    rw (add-suc i k, take_one_more events (i + k) (x.0) here)
    (steady_push (keeps_at n events none (i + k) (x.0) here) before)

-- ---- from a painting on

-- the register that a command paints in has a definition
pub defined_there : {n : ℕ} (r : ℕ) {before : List Event} {e : Event} → Keeps n before e → is_painting e ≡ true
    → known before ≡ Some r → IsSome (definition_of before r)
unfolding breaks_undefined
defined_there r {before} k p h = some_from (definition_of before r) (rw (p, h) at k.undefined)

-- a painting command defines nothing
painting_defines : (p : ℕ → Bool) (e : Event) → is_painting e ≡ true → definition_where p e ≡ None
painting_defines p (Step (Define q s x y z)) h = cc
painting_defines p _ h = refl

steady_start : (r : ℕ) (before : List Event) (e : Event) (d : Definition) → is_painting e ≡ true → known before ≡ Some r
    → definition_of before r ≡ Some d → IsSteady r d (before ++ e ∷ [])
steady_start r before e d p h defined = record {
  defined = definition_push before e r
      ∙ ap (λ o. option_or o (definition_of before r)) (painting_defines (λ q. q == r) e p) ∙ defined;
  painted = painted_in_push before e r ∙ rw (p, h, eq-eqb r r refl) refl;
}

-- the definition of a register that a command paints in stays the same to the end
pub steady_end : (n r i : ℕ) (events : List Event) (e : Event) (d : Definition) → BreaksNone n Uncovered events
    → slice_get events i ≡ Some e → is_painting e ≡ true → known (take i events) ≡ Some r
    → definition_of (take i events) r ≡ Some d → IsSteady r d events
steady_end n r i events e d none here p k defined =
    let lt : i < length events = slice_get_within events i e here in
    let start : IsSteady r d (take (suc i) events)
    = rw (take_one_more events i e here) (steady_start r (take i events) e d p k defined) in
    let fit : suc i + (length events - suc i) ≡ length events = omega arith in
    let on : IsSteady r d (take (suc i + (length events - suc i)) events)
    = steady_on n events none (suc i) (length events - suc i) (omega arith) start in
    rw (fit, take-length events) at on

-- ---- the law

colours_same : (r : ℕ) (xs ys : List Event) (d : Definition) → definition_of xs r ≡ Some d → definition_of ys r ≡ Some d
    → colour_of xs r ≡ colour_of ys r
unfolding colour_of
colours_same r xs ys d h k = rw (h, k) refl

entry_left : (n r : ℕ) (events : List Event) → r < n → palette_at (picture_left n events).palette r ≡ colour_of events r
unfolding picture_left
entry_left n r events lt = left_at n r events lt

pub painted_colour_is_left : (n : ℕ) → PaintedColourIsLeft n
painted_colour_is_left n t events i e r enough none here p k =
    let keeps : Keeps n (take i events) e = keeps_at n events none i e here in
    let low : r < n = known_in_range n r i events none k in
    let d : (d : Definition) × (definition_of (take i events) r ≡ Some d) = some_value _ (defined_there r keeps p k) in
    let last : IsSteady r (d.0) events = steady_end n r i events e (d.0) none here p k (d.1) in
    let sound : AllByRecursion (IsSound n) events = each_sound n events none in
    let now : colour_of (take i events) r ≡ Some (map_on t (take i events) r)
    = map_defined t n r (take i events) (d.0) enough (each_before (IsSound n) i events sound) (d.1) in
    let after : colour_of events r ≡ Some (map_on t events r)
    = map_defined t n r events (d.0) enough sound last.defined in
    let both : colour_of events r ≡ colour_of (take i events) r
    = colours_same r events (take i events) (d.0) last.defined (d.1) in
    record {
      at_painting = entry_left n r events low ∙ both ∙ now;
      at_showing = entry_left n r events low ∙ after;
    }
