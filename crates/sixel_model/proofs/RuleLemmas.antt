-- The rules, and the first broken one.
use Rattle.std.proofs.Common.{◌≡◌, ◌<◌, ◌≤◌, ◌-◌, ◌==◌, inl, inr, lit≤, ℕ, suc, Bool, true, false, Some, List, []}
use Rattle.std.proofs.Common.{◌∷◌, ◌++◌, ◌∙◌, ap, arith, get_or, length, refl, sym, take}
use Rattle.std.proofs.lemmas.Bool.{agree_below_at, eqb-true}
use Rattle.std.specs.Prelude.{slice_get, IsTrue, IsFalse}
use Rattle.sixel_grammar.specs.declared.command.Event.{Event}
use Rattle.sixel_model.specs.declared.rule.Rule.{Rule}
use Rattle.sixel_model.specs.declared.rule.Rule.TheVariants.{RasterFirst, RasterTwice, Ratio, BoxSize, Register}
use Rattle.sixel_model.specs.declared.rule.Rule.TheVariants.{ColourValue, RepeatZero, Unselected, Undefined, Redefined}
use Rattle.sixel_model.specs.declared.rule.Rule.TheVariants.{Outside, Uncovered, EightBit}
use Rattle.sixel_model.specs.Events.{is_eight_bit}
use Rattle.sixel_model.specs.Positions.{HoldsAtPosition}
use Rattle.sixel_model.specs.Rules.{Breaks, BreaksNone, BreaksOutside, BreaksUncovered, IsFirstBroken, last_rule}
use Rattle.sixel_model.specs.Rules.{breaks_box_size, breaks_colour_value, breaks_eight_bit, breaks_ratio}
use Rattle.sixel_model.specs.Rules.{breaks_raster_first, breaks_raster_twice, breaks_redefined, breaks_register}
use Rattle.sixel_model.specs.Rules.{breaks_repeat_zero, breaks_undefined, breaks_unselected, all_rules, number_of}
use Rattle.sixel_model.proofs.PositionLemmas.{holds_before, holds_end, holds_push, holds_within}

-- the event breaks none of the rules on what is drawn, which are all but the last
pub record Keeps (registers : ℕ) (before : List Event) (e : Event) : Type 0 where
  pub raster_first : IsFalse (breaks_raster_first before e)
  pub raster_twice : IsFalse (breaks_raster_twice before e)
  pub ratio : IsFalse (breaks_ratio e)
  pub box_size : IsFalse (breaks_box_size e)
  pub register : IsFalse (breaks_register registers e)
  pub colour_value : IsFalse (breaks_colour_value e)
  pub repeat_zero : IsFalse (breaks_repeat_zero e)
  pub unselected : IsFalse (breaks_unselected before e)
  pub undefined : IsFalse (breaks_undefined before e)
  pub redefined : IsFalse (breaks_redefined before e)
  pub outside : ¬ BreaksOutside before e
  pub uncovered : ¬ BreaksUncovered before e

not_true : (b : Bool) → IsFalse b → ¬ IsTrue b
not_true true f t = cc
not_true false f t = cc

pub is_false : (b : Bool) → ¬ IsTrue b → IsFalse b
is_false true h = absurd (h refl)
is_false false h = refl

-- an event that keeps these rules and isn't 8-bit breaks no rule
pub keeps_none : (registers : ℕ) (rule : Rule) (before : List Event) (e : Event) → Keeps registers before e
    → IsFalse (is_eight_bit e) → ¬ Breaks registers rule before e
unfolding Breaks breaks_eight_bit
keeps_none registers RasterFirst before e k bits = not_true _ k.raster_first
keeps_none registers RasterTwice before e k bits = not_true _ k.raster_twice
keeps_none registers Ratio before e k bits = not_true _ k.ratio
keeps_none registers BoxSize before e k bits = not_true _ k.box_size
keeps_none registers Register before e k bits = not_true _ k.register
keeps_none registers ColourValue before e k bits = not_true _ k.colour_value
keeps_none registers RepeatZero before e k bits = not_true _ k.repeat_zero
keeps_none registers Unselected before e k bits = not_true _ k.unselected
keeps_none registers Undefined before e k bits = not_true _ k.undefined
keeps_none registers Redefined before e k bits = not_true _ k.redefined
keeps_none registers Outside before e k bits = k.outside
keeps_none registers Uncovered before e k bits = k.uncovered
keeps_none registers EightBit before e k bits = not_true _ bits

-- an event that breaks none of these rules keeps them
pub none_keeps : (registers : ℕ) (before : List Event) (e : Event)
    → ((rule : Rule) → number_of rule ≤ number_of Uncovered → ¬ Breaks registers rule before e)
    → Keeps registers before e
unfolding Breaks
none_keeps registers before e h = record {
  raster_first = is_false _ (h RasterFirst (lit≤ tt));
  raster_twice = is_false _ (h RasterTwice (lit≤ tt));
  ratio = is_false _ (h Ratio (lit≤ tt));
  box_size = is_false _ (h BoxSize (lit≤ tt));
  register = is_false _ (h Register (lit≤ tt));
  colour_value = is_false _ (h ColourValue (lit≤ tt));
  repeat_zero = is_false _ (h RepeatZero (lit≤ tt));
  unselected = is_false _ (h Unselected (lit≤ tt));
  undefined = is_false _ (h Undefined (lit≤ tt));
  redefined = is_false _ (h Redefined (lit≤ tt));
  outside = h Outside (lit≤ tt);
  uncovered = h Uncovered (lit≤ tt);
}

-- in a list in which none of these rules is broken, each event keeps them
pub keeps_at : (registers : ℕ) (events : List Event) → BreaksNone registers Uncovered events → (i : ℕ) (e : Event)
    → slice_get events i ≡ Some e → Keeps registers (take i events) e
unfolding BreaksNone
keeps_at registers events none i e here =
    none_keeps registers (take i events) e (λ rule le b. none rule le i (record { item = e; here = here; holds = b }))

-- in a list in which no rule is broken, no event is 8-bit
pub seven_bits_at : (registers : ℕ) (events : List Event) → BreaksNone registers last_rule events → (i : ℕ) (e : Event)
    → slice_get events i ≡ Some e → IsFalse (is_eight_bit e)
unfolding BreaksNone Breaks breaks_eight_bit
seven_bits_at registers events none i e here =
    is_false _ (λ b. none EightBit (lit≤ tt) i (record { item = e; here = here; holds = b }))

-- if no rule is broken, none of those on what is drawn is
pub none_drawn : (registers : ℕ) (events : List Event) → BreaksNone registers last_rule events
    → BreaksNone registers Uncovered events
unfolding BreaksNone
none_drawn registers events none rule le = none rule (omega (arith, le))

-- ---- the order of the rules

pub at_least_one : (rule : Rule) → 1 ≤ number_of rule
at_least_one RasterFirst = lit≤ tt
at_least_one _ = lit≤ tt

pub at_most_last : (rule : Rule) → number_of rule ≤ number_of last_rule
at_most_last RasterFirst = lit≤ tt
at_most_last _ = lit≤ tt

-- the rule at this place in the order, counted from 0
abbrev pub rule_at : ℕ → Rule
rule_at k = get_or all_rules k last_rule

pub at_its_place : (rule : Rule) → rule_at (number_of rule - 1) ≡ rule
at_its_place RasterFirst = refl
at_its_place _ = refl

pub number_at : (k : ℕ) → k < 13 → number_of (rule_at k) ≡ suc k
number_at k lt =
    eqb-true _ _ (agree_below_at (λ k. number_of (rule_at k) == suc k) (λ k. true) 13 k refl lt)

-- no two rules have the same number
pub same_rule : (r q : Rule) → number_of r ≡ number_of q → r ≡ q
same_rule r q e = sym (at_its_place r) ∙ ap (λ n. rule_at (n - 1)) e ∙ at_its_place q

-- ---- one more event

-- the empty list breaks no rule
pub none_of_none : (registers : ℕ) (last : Rule) → BreaksNone registers last []
unfolding BreaksNone
none_of_none registers last rule le i h = cc h.here

-- if no rule was broken, and the next event keeps them and isn't 8-bit, none is
pub none_push : (registers : ℕ) (last : Rule) (before : List Event) (e : Event) → BreaksNone registers last before
    → Keeps registers before e → IsFalse (is_eight_bit e) → BreaksNone registers last (before ++ e ∷ [])
unfolding BreaksNone
none_push registers last before e none k bits rule le i h =
    elim (holds_push (Breaks registers rule) before e i h) [
      | inl b ↦ none rule le i b.1
      | inr b ↦ keeps_none registers rule before e k bits b.1
    ]

-- if no rule is broken, none was before the last event
pub none_before : (registers : ℕ) (last : Rule) (before : List Event) (e : Event)
    → BreaksNone registers last (before ++ e ∷ []) → BreaksNone registers last before
unfolding BreaksNone
none_before registers last before e none rule le i h =
    none rule le i (holds_before (Breaks registers rule) before e i (holds_within (Breaks registers rule) before i h) h)

-- ---- the first broken rule

-- if no rule is broken, none is at any position
pub nowhere : (registers : ℕ) (rule : Rule) (i : ℕ) (events : List Event) → BreaksNone registers last_rule events
    → ¬ HoldsAtPosition (Breaks registers rule) events i
unfolding BreaksNone
nowhere registers rule i events none h = none rule (at_most_last rule) i h

-- the first broken rule stays the first with one more event
pub first_push : (registers : ℕ) (rule : Rule) (i : ℕ) (before : List Event) (e : Event)
    → IsFirstBroken registers before rule i → IsFirstBroken registers (before ++ e ∷ []) rule i
first_push registers rule i before e f =
    let lt : i < length before = holds_within (Breaks registers rule) before i f.broken in
    record {
      broken = holds_before (Breaks registers rule) before e i lt f.broken;
      none_earlier = λ m j l h. elim (holds_push (Breaks registers m) before e j h) [
        | inl b ↦ f.none_earlier m j l b.1
        | inr b ↦ absurd (omega (arith, b.0, l, lt))
      ];
      none_smaller = λ m l h. elim (holds_push (Breaks registers m) before e i h) [
        | inl b ↦ f.none_smaller m l b.1
        | inr b ↦ absurd (omega (arith, b.0, lt))
      ];
    }

-- if no rule was broken before the event, the least rule that it breaks is the first
pub first_there : (registers : ℕ) (rule : Rule) (before : List Event) (e : Event)
    → BreaksNone registers last_rule before → Breaks registers rule before e
    → ((m : Rule) → number_of m < number_of rule → ¬ Breaks registers m before e)
    → IsFirstBroken registers (before ++ e ∷ []) rule (length before)
first_there registers rule before e none b least = record {
  broken = holds_end (Breaks registers rule) before e b;
  none_earlier = λ m j l h. elim (holds_push (Breaks registers m) before e j h) [
    | inl c ↦ nowhere registers m j before none c.1
    | inr c ↦ absurd (omega (arith, c.0, l))
  ];
  none_smaller = λ m l h. elim (holds_push (Breaks registers m) before e (length before) h) [
    | inl c ↦ absurd (omega (arith, c.0))
    | inr c ↦ least m l c.1
  ];
}
