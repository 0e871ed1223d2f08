-- The form of a whole list that breaks no rule, and none that konsole asks for.
use Rattle.std.proofs.Common.{◌≡◌, ℕ, ◌%◌, Bool, true, false, ◌&&◌, ◌||◌, Option, Some, None, List, [], ◌∷◌, ◌++◌}
use Rattle.std.proofs.Common.{refl, sym, ap, subst, ◌∙◌, append_assoc}
use Rattle.std.specs.Prelude.{is_none, is_some}
use Rattle.std.specs.List.{list_any}
use Rattle.std.proofs.lemmas.Bool.{eqb-true, not-false, or_left}
use Rattle.sixel_grammar.specs.declared.command.Command.TheVariants.{Sixel, Repeat, Raster, Select, Define}
use Rattle.sixel_grammar.specs.declared.command.Command.TheVariants.{CarriageReturn, NextLine}
use Rattle.sixel_grammar.specs.declared.command.Event.{Event}
use Rattle.sixel_grammar.specs.declared.command.Event.TheVariants.{Start, Step, Finish}
use Rattle.sixel_grammar.specs.Document.{AreRest, AreWhole}
use Rattle.sixel_model.specs.declared.rule.Rule.TheVariants.{Uncovered}
use Rattle.sixel_model.specs.Events.{Attributes, is_data_command, is_finish, is_return, named_by, raster_of}
use Rattle.sixel_model.specs.Positions.{earliest}
use Rattle.sixel_model.specs.Rules.{BreaksNone, breaks_raster_first, raster_before}
use Rattle.sixel_model.proofs.RuleLemmas.{Keeps}
use Rattle.sixel_model.proofs.StepLemmas.{raster_push}
use Rattle.sixel_named_terminals.specs.declared.named.Named.TheVariants.{Konsole}
use Rattle.sixel_emulator.proofs.WordLemmas.{any_push}
use Rattle.sixel_emulator_rules.specs.Asked.{breaks_raster_late, breaks_rows}
use Rattle.sixel_emulator_rules_laws.proofs.AskedForms.{BreaksNoneFor}
use Rattle.sixel_emulator_rules_laws.proofs.KonsoleDrawingLemmas.{asked_here, front, is_start, keeps_here}
use Rattle.sixel_emulator_rules_laws.proofs.KonsoleRuleLemmas.{IsAsked, IsBox, box_of_raster}

-- ---- the raster attributes come first

-- the event needs raster attributes before it
abbrev needs_box : Event → Bool
needs_box e = is_data_command e || is_return e || is_finish e

needs_one : (n : ℕ) (before : List Event) (e : Event) → Keeps n before e → raster_before before ≡ None
    → needs_box e ≡ true → ⊥
unfolding breaks_raster_first
needs_one n before e k none needs =
    let kept : (is_none (raster_before before) && needs_box e) ≡ false = k.raster_first in
    let no_more : true ≡ false = rw (none, needs) at kept in
    cc

abbrev names : Event → Bool
names e = is_some (named_by e)

late_one : (before : List Event) (e : Event) (a : Attributes) → IsAsked before e → raster_before before ≡ None
    → list_any names before ≡ true → raster_of e ≡ Some a → ⊥
unfolding breaks_raster_late
late_one before e a asked none named is =
    let kept : ((is_some (raster_of e) && is_none (raster_before before)) && list_any names before) ≡ false =
    asked.raster_late in
    let no_more : true ≡ false = rw (is, none, named) at kept in
    cc

late_step : (before : List Event) (e : Event) (o : Option Attributes) → raster_of e ≡ o → IsAsked before e
    → raster_before before ≡ None → list_any names before ≡ true
    → (raster_before (before ++ e ∷ []) ≡ None → list_any names (before ++ e ∷ []) ≡ true → ⊥) → ⊥
late_step before e (Some a) is asked bare named more = late_one before e a asked bare named is
late_step before e None is asked bare named more =
    more (raster_push before e ∙ rw (bare, is) refl) (any_push names before e ∙ or_left _ _ named)

late_never : (n : ℕ) (before more : List Event) → AreRest more → BreaksNone n Uncovered (before ++ more)
    → BreaksNoneFor Konsole (before ++ more) → raster_before before ≡ None → list_any names before ≡ true → ⊥
late_never n before [] rest none asked bare named = rest
late_never n before (Start eight parameters ∷ more) rest none asked bare named = rest
late_never n before (Finish eight ∷ more) rest none asked bare named =
    needs_one n before (Finish eight) (keeps_here n before more (Finish eight) none) bare refl
late_never n before (Step command ∷ more) rest none asked bare named =
    let same = sym (append_assoc before (Step command ∷ []) more) in
    late_step before (Step command) (raster_of (Step command)) refl (asked_here before more (Step command) asked) bare
    named
    (late_never n (before ++ Step command ∷ []) more rest (subst (BreaksNone n Uncovered) same none)
    (subst (BreaksNoneFor Konsole) same asked))

-- ---- the form

-- a start, raster attributes, commands and a finish
pub record IsForm (events : List Event) : Type 0 where
  pub start : Event
  pub starts : is_start start ≡ true
  pub box : Attributes
  pub is_box : IsBox box
  pub rows : box.height % 6 ≡ 0
  pub steps : List Event
  pub eight : Bool
  pub going : list_any is_finish steps ≡ false
  pub is : events ≡ (front start box ++ steps) ++ Finish eight ∷ []

record EndsIn (events : List Event) : Type 0 where
  pub steps : List Event
  pub eight : Bool
  pub going : list_any is_finish steps ≡ false
  pub is : events ≡ steps ++ Finish eight ∷ []

rest_ends : (events : List Event) → AreRest events → EndsIn events
rest_ends (Step command ∷ more) h =
    let r = rest_ends more h in
    record {
      steps = Step command ∷ r.steps;
      eight = r.eight;
      going = r.going;
      is = ap (λ (es : List Event). Step command ∷ es) r.is;
    }
rest_ends (Finish eight ∷ more) h =
    record { steps = []; eight = eight; going = refl; is = ap (λ (es : List Event). Finish eight ∷ es) h }
rest_ends _ h = absurd h

six_rows : (before : List Event) (pan pad w h : ℕ) → IsAsked before (Step (Raster pan pad w h)) → h % 6 ≡ 0
unfolding breaks_rows
six_rows before pan pad w h asked = eqb-true (h % 6) 0 (not-false _ asked.rows)

boxed_form : (n : ℕ) (start : Event) (pan pad w h : ℕ) (more : List Event) → is_start start ≡ true → AreRest more
    → BreaksNone n Uncovered (start ∷ Step (Raster pan pad w h) ∷ more)
    → BreaksNoneFor Konsole (start ∷ Step (Raster pan pad w h) ∷ more)
    → IsForm (start ∷ Step (Raster pan pad w h) ∷ more)
boxed_form n start pan pad w h more starts rest none asked =
    let r : EndsIn more = rest_ends more rest in
    let e : Event = Step (Raster pan pad w h) in
    record {
      start = start;
      starts = starts;
      box = record { pan = pan; pad = pad; width = w; height = h };
      is_box = box_of_raster n pan pad w h (start ∷ []) (keeps_here n (start ∷ []) more e none);
      rows = six_rows (start ∷ []) pan pad w h (asked_here (start ∷ []) more e asked);
      steps = r.steps;
      eight = r.eight;
      going = r.going;
      is = ap (λ (es : List Event). start ∷ e ∷ es) r.is;
    }

start_bare : (start : Event) → is_start start ≡ true → raster_before (start ∷ []) ≡ None
unfolding raster_before earliest
start_bare (Start eight parameters) h = refl
start_bare _ h = cc

named_first : (n : ℕ) (start e : Event) (more : List Event) → is_start start ≡ true → AreRest more
    → BreaksNone n Uncovered (start ∷ e ∷ more) → BreaksNoneFor Konsole (start ∷ e ∷ more) → raster_of e ≡ None
    → names e ≡ true → ⊥
named_first n start e more starts rest none asked bare named =
    late_never n (start ∷ e ∷ []) more rest none asked
    (raster_push (start ∷ []) e ∙ rw (start_bare start starts, bare) refl)
    (any_push names (start ∷ []) e ∙ rw named (or_true (list_any names (start ∷ []))))
  where
    or_true : (b : Bool) → (b || true) ≡ true
    or_true true = refl
    or_true false = refl

rest_form : (n : ℕ) (start : Event) (more : List Event) → is_start start ≡ true → AreRest more
    → BreaksNone n Uncovered (start ∷ more) → BreaksNoneFor Konsole (start ∷ more) → IsForm (start ∷ more)
rest_form n start (Step (Raster pan pad w h) ∷ more) starts rest none asked =
    boxed_form n start pan pad w h more starts rest none asked
rest_form n start (Step (Define r s x y z) ∷ more) starts rest none asked =
    absurd (named_first n start (Step (Define r s x y z)) more starts rest none asked refl refl)
rest_form n start (Step (Select r) ∷ more) starts rest none asked =
    absurd (named_first n start (Step (Select r)) more starts rest none asked refl refl)
rest_form n start (Step (Sixel bits) ∷ more) starts rest none asked =
    absurd (needs_one n (start ∷ []) (Step (Sixel bits)) (keeps_here n (start ∷ []) more _ none)
    (start_bare start starts) refl)
rest_form n start (Step (Repeat count bits) ∷ more) starts rest none asked =
    absurd (needs_one n (start ∷ []) (Step (Repeat count bits)) (keeps_here n (start ∷ []) more _ none)
    (start_bare start starts) refl)
rest_form n start (Step CarriageReturn ∷ more) starts rest none asked =
    absurd (needs_one n (start ∷ []) (Step CarriageReturn) (keeps_here n (start ∷ []) more _ none)
    (start_bare start starts) refl)
rest_form n start (Step NextLine ∷ more) starts rest none asked =
    absurd (needs_one n (start ∷ []) (Step NextLine) (keeps_here n (start ∷ []) more _ none)
    (start_bare start starts) refl)
rest_form n start (Finish eight ∷ more) starts rest none asked =
    absurd (needs_one n (start ∷ []) (Finish eight) (keeps_here n (start ∷ []) more _ none)
    (start_bare start starts) refl)
rest_form n start (Start eight parameters ∷ more) starts rest none asked = absurd rest
rest_form n start [] starts rest none asked = absurd rest

pub form : (n : ℕ) (events : List Event) → AreWhole events → BreaksNone n Uncovered events
    → BreaksNoneFor Konsole events → IsForm events
form n (Start eight parameters ∷ more) whole none asked =
    rest_form n (Start eight parameters) more refl whole none asked
form n _ whole none asked = absurd whole
