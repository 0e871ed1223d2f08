-- The box that xterm fills is that of the first raster attributes, if no rule is broken, and no width is above 1,000, and no height above 996.
use Rattle.std.proofs.Common.{◌≡◌, ℕ, ◌≤◌, true, false, ◌&&◌, ◌||◌, Option, Some, None, List, [], ◌∷◌, ◌++◌}
use Rattle.std.proofs.Common.{refl, sym, subst, ◌∙◌, arith}
use Rattle.std.specs.Prelude.{is_some, nat_lt, IsFalse}
use Rattle.std.specs.Option.{option_or}
use Rattle.std.proofs.lemmas.Bool.{lt-ltb, or_parts}
use Rattle.std.proofs.lemmas.Bool.{cases_lt}
use Rattle.std.proofs.Common.{inl, inr}
use Rattle.sixel_grammar.specs.declared.command.Event.{Event}
use Rattle.sixel_model.specs.Events.{Attributes, raster_of}
use Rattle.sixel_model.specs.Positions.{earliest}
use Rattle.sixel_model.specs.Rules.{raster_before}
use Rattle.sixel_model.proofs.RuleLemmas.{Keeps}
use Rattle.sixel_model.proofs.StepLemmas.{raster_push}
use Rattle.sixel_emulator.specs.Words.{greatest}
use Rattle.sixel_xterm.specs.XTerm.{height_of, width_of}
use Rattle.sixel_emulator.proofs.WordLemmas.{greatest_push}
use Rattle.sixel_emulator_rules.specs.Asked.{breaks_large}
use Rattle.sixel_emulator_rules_laws.proofs.SizeLemmas.{none_other, placed}

pub record IsUnsided (before : List Event) : Type 0 where
  pub narrow : greatest width_of before ≡ 0
  pub low : greatest height_of before ≡ 0

pub record IsSidedBy (a : Attributes) (before : List Event) : Type 0 where
  pub width : greatest width_of before ≡ a.width
  pub height : greatest height_of before ≡ a.height
  pub across : a.width ≤ 1000
  pub down : a.height ≤ 996

abbrev pub IsSided : List Event → Option Attributes → Type 0
IsSided before None = IsUnsided before
IsSided before (Some a) = IsSidedBy a before

pub sided_none : IsSided [] (raster_before [])
unfolding raster_before earliest greatest
sided_none = record { narrow = refl; low = refl }

sided_still : (before : List Event) (e : Event) (a : Attributes) → raster_of e ≡ None → IsSidedBy a before
    → IsSidedBy a (before ++ e ∷ [])
sided_still before e a none s = record {
  width = greatest_push width_of before e ∙ rw (s.width, none) (omega arith);
  height = greatest_push height_of before e ∙ rw (s.height, none) (omega arith);
  across = s.across;
  down = s.down;
}

unsided_still : (before : List Event) (e : Event) → raster_of e ≡ None → IsUnsided before
    → IsUnsided (before ++ e ∷ [])
unsided_still before e none u = record {
  narrow = greatest_push width_of before e ∙ rw (u.narrow, none) refl;
  low = greatest_push height_of before e ∙ rw (u.low, none) refl;
}

pub at_most : (most side : ℕ) → nat_lt most side ≡ false → side ≤ most
at_most most side small = elim (cases_lt most side) [
  | inl above ↦ (let no : nat_lt most side ≡ true = lt-ltb most side above in cc)
  | inr le ↦ le
]

sided_first : (before : List Event) (e : Event) (a : Attributes) → raster_of e ≡ Some a → IsFalse (breaks_large e)
    → IsUnsided before → IsSidedBy a (before ++ e ∷ [])
unfolding breaks_large
sided_first before e a is small u =
    let sides : (nat_lt 1000 a.width || nat_lt 996 a.height) ≡ false = rw is at small in
    let parts = or_parts (nat_lt 1000 a.width) (nat_lt 996 a.height) sides in
    record {
      width = greatest_push width_of before e ∙ rw (u.narrow, is) (omega arith);
      height = greatest_push height_of before e ∙ rw (u.low, is) (omega arith);
      across = at_most 1000 a.width parts.0;
      down = at_most 996 a.height parts.1;
    }

unsided_step : (before : List Event) (e : Event) (o : Option Attributes) → raster_of e ≡ o → IsFalse (breaks_large e)
    → IsUnsided before → IsSided (before ++ e ∷ []) o
unsided_step before e None is small u = unsided_still before e is u
unsided_step before e (Some a) is small u = sided_first before e a is small u

sided_step : (before : List Event) (e : Event) (o : Option Attributes) → (is_some o && is_some (raster_of e)) ≡ false
    → IsFalse (breaks_large e) → IsSided before o → IsSided (before ++ e ∷ []) (option_or o (raster_of e))
sided_step before e (Some a) once small s = sided_still before e a (none_other (raster_of e) once) s
sided_step before e None once small u = unsided_step before e (raster_of e) refl small u

pub sided_push : (n : ℕ) (before : List Event) (e : Event) → Keeps n before e → IsFalse (breaks_large e)
    → IsSided before (raster_before before) → IsSided (before ++ e ∷ []) (raster_before (before ++ e ∷ []))
sided_push n before e k small s =
    subst (IsSided (before ++ e ∷ [])) (sym (raster_push before e))
    (sided_step before e (raster_before before) (placed n before e k).once small s)
