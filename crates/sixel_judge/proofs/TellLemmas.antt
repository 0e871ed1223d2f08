-- The least broken rule counts at the first event that breaks one: no other rule tells its mistake.
use Rattle.std.proofs.Common.{◌≡◌, ◌<◌, ◌&&◌, ℕ, zero, suc, Bool, true, false, not, Option, Some, None, List}
use Rattle.std.proofs.Common.{[], ◌∷◌, length, take, refl, ap, ◌∙◌, arith, lit<}
use Rattle.std.proofs.Math.Seq.{take-length}
use Rattle.std.specs.Prelude.{IsSomeAnd, IsTrue, is_none, nat_lt, slice_get}
use Rattle.std.specs.Option.{option_map_or, option_or}
use Rattle.std.proofs.lemmas.Bool.{and_from, and_parts, le-leb, lt-ltb, ltb-false, true_from_ne_false}
use Rattle.sixel_grammar.specs.declared.command.Command.TheVariants.{Sixel, Repeat, Define}
use Rattle.sixel_grammar.specs.declared.command.Event.{Event}
use Rattle.sixel_grammar.specs.declared.command.Event.TheVariants.{Step}
use Rattle.sixel_model.specs.Events.{Attributes, has_sides, is_data_command, is_painting, named_by, raster_of}
use Rattle.sixel_model.specs.Positions.{any_at, earliest, passes_at}
use Rattle.sixel_model.specs.Rules.{Breaks, BreaksNone, BreaksOutside, BreaksUncovered, breaks_box_size}
use Rattle.sixel_model.specs.Rules.{breaks_raster_first, breaks_redefined, breaks_register, breaks_undefined}
use Rattle.sixel_model.specs.Rules.{definition_of, known, last_rule, number_of, raster_before}
use Rattle.sixel_model.proofs.CoverLemmas.{passes_below}
use Rattle.sixel_model.proofs.LatestLemmas.{Gives}
use Rattle.sixel_model.specs.declared.rule.Rule.{Rule}
use Rattle.sixel_model.specs.declared.rule.Rule.TheVariants.{RasterFirst, BoxSize, Register, Undefined, Redefined}
use Rattle.sixel_model.specs.declared.rule.Rule.TheVariants.{Outside, Uncovered}
use Rattle.sixel_model.proofs.RuleLemmas.{none_drawn, nowhere}
use Rattle.sixel_judge.proofs.ColourLemmas.{known_in_range}
use Rattle.sixel_judge.specs.Counting.{Counts, has_box, is_below, is_told, paints_early}

-- ---- items of a prefix

-- the first result is that of an item at some position
earliest_step : {X A : Type 0} (f : X → Option A) (x : X) (xs : List X) (a : A) (o : Option A) → f x ≡ o
    → (earliest f xs ≡ Some a → Gives f xs a) → option_or o (earliest f xs) ≡ Some a → Gives f (x ∷ xs) a
earliest_step f x xs a (Some b) e ih h = record { at = 0; item = x; here = refl; gives = e ∙ h }
earliest_step f x xs a None e ih h =
    let g : Gives f xs a = ih h in
    record { at = suc g.at; item = g.item; here = g.here; gives = g.gives }

pub earliest_gives : {X A : Type 0} (f : X → Option A) (xs : List X) (a : A) → earliest f xs ≡ Some a → Gives f xs a
unfolding earliest
earliest_gives f [] a h = cc
earliest_gives f (x ∷ xs) a h = earliest_step f x xs a (f x) refl (earliest_gives f xs a) h

-- in a list that breaks no rule, no item breaks one
not_before : (registers : ℕ) (rule : Rule) (before : List Event) (g : ℕ) (e : Event)
    → BreaksNone registers last_rule before → slice_get before g ≡ Some e → ¬ Breaks registers rule (take g before) e
not_before registers rule before g e none here broken =
    nowhere registers rule g before none (record { item = e; here = here; holds = broken })

-- ---- registers

-- the known register is below
known_below : (registers r : ℕ) (before : List Event) → BreaksNone registers last_rule before → known before ≡ Some r
    → nat_lt r registers ≡ true
known_below registers r before none is =
    lt-ltb r registers (known_in_range registers r (length before) before (none_drawn registers before none)
    (ap known (take-length before) ∙ is))

if_known : (o : Option ℕ) (p : ℕ → Bool) → option_map_or p o false ≡ true → (r : ℕ) × (o ≡ Some r)
if_known None p h = cc
if_known (Some r) p h = (r, refl)

told_undefined : (registers : ℕ) (before : List Event) (e : Event) → BreaksNone registers last_rule before
    → Breaks registers Undefined before e → IsTrue (is_below registers (known before))
unfolding Breaks breaks_undefined
told_undefined registers before e none broken =
    let parts = and_parts (is_painting e) (option_map_or (λ r. is_none (definition_of before r)) (known before) false)
    broken in
    let is = if_known (known before) (λ r. is_none (definition_of before r)) parts.1 in
    rw is.1 (known_below registers is.0 before none is.1)

told_redefined : (registers : ℕ) (before : List Event) (e : Event) → Breaks registers Redefined before e
    → ¬ Breaks registers Register before e → IsTrue (is_below registers (named_by e))
unfolding Breaks breaks_redefined breaks_register
told_redefined registers before (Step (Define register system x y z)) broken none =
    true_from_ne_false (nat_lt register registers)
    (λ high. none (le-leb registers register (ltb-false register registers high)))
told_redefined registers before _ broken none = cc

-- ---- the box

-- raster attributes with a side out of range break `BoxSize`
pub sides_break : (registers : ℕ) (before : List Event) (e : Event) (a : Attributes) → raster_of e ≡ Some a
    → has_sides a ≡ false → Breaks registers BoxSize before e
unfolding Breaks breaks_box_size
sides_break registers before e a is wrong = rw (is, wrong) refl

told_box : (registers : ℕ) (before : List Event) (a : Attributes) → BreaksNone registers last_rule before
    → raster_before before ≡ Some a → has_sides a ≡ true
unfolding raster_before
told_box registers before a none is = true_from_ne_false (has_sides a) (λ wrong.
    let g : Gives raster_of before a = earliest_gives raster_of before a is in
    not_before registers BoxSize before g.at g.item none g.here
    (sides_break registers (take g.at before) g.item a g.gives wrong))

pub if_box : (o : Option Attributes) (P : Attributes → Type 0) → IsSomeAnd o P → (a : Attributes) × (o ≡ Some a)
if_box None P h = absurd h
if_box (Some a) P h = (a, refl)

has_it : (o : Option Attributes) (a : Attributes) → o ≡ Some a → has_sides a ≡ true
    → option_map_or has_sides o false ≡ true
has_it o a is sides = rw is sides

told_outside : (registers : ℕ) (before : List Event) (P : Attributes → Type 0) → BreaksNone registers last_rule before
    → IsSomeAnd (raster_before before) P → has_box before ≡ true
told_outside registers before P none broken =
    let is = if_box (raster_before before) P broken in
    has_it (raster_before before) is.0 is.1 (told_box registers before is.0 none is.1)

-- ---- painting before the box

pub paints_data : (e : Event) → is_painting e ≡ true → is_data_command e ≡ true
paints_data (Step (Sixel bits)) h = refl
paints_data (Step (Repeat count bits)) h = refl
paints_data _ h = cc

-- a command that paints before any raster attributes breaks `RasterFirst`
early_breaks : (registers : ℕ) (before : List Event) (e : Event)
    → (is_painting e && is_none (raster_before before)) ≡ true → Breaks registers RasterFirst before e
unfolding Breaks breaks_raster_first
early_breaks registers before e h =
    let parts = and_parts (is_painting e) (is_none (raster_before before)) h in
    rw (parts.1, paints_data e parts.0) refl

-- an item that passes
pub record Passes {X : Type 0} (p : List X → X → Bool) (xs : List X) : Type 0 where
  pub at : ℕ
  pub item : X
  pub here : slice_get xs at ≡ Some item
  pub passes : p (take at xs) item ≡ true

pass_item : {X : Type 0} (p : List X → X → Bool) (xs : List X) (i : ℕ) (o : Option X) → slice_get xs i ≡ o
    → option_map_or (λ x. p (take i xs) x) o false ≡ true → Passes p xs
pass_item p xs i None is h = cc
pass_item p xs i (Some x) is h = record { at = i; item = x; here = is; passes = h }

pub passes_somewhere : {X : Type 0} (p : List X → X → Bool) (xs : List X) → any_at p xs ≡ true → Passes p xs
unfolding any_at passes_at
passes_somewhere p xs h =
    let found = passes_below (length xs) (passes_at p xs) h in
    pass_item p xs found.number (slice_get xs found.number) refl found.passes

told_late : (registers : ℕ) (before : List Event) → BreaksNone registers last_rule before
    → not (paints_early before) ≡ true
unfolding paints_early
told_late registers before none = late (any_at _ before) refl
  where
    late : (b : Bool) → any_at (λ earlier e. is_painting e && is_none (raster_before earlier)) before ≡ b → not b ≡ true
    late false is = refl
    late true is =
        let p : Passes (λ earlier e. is_painting e && is_none (raster_before earlier)) before
        = passes_somewhere _ before is in
        absurd (not_before registers RasterFirst before p.at p.item none p.here
        (early_breaks registers (take p.at before) p.item p.passes))

-- ---- all rules

-- if no rule is broken before the event, and no rule with a smaller number at it, then no other rule tells the mistake
told : (registers : ℕ) (rule : Rule) (before : List Event) (e : Event) → BreaksNone registers last_rule before
    → ((m : Rule) → number_of m < number_of rule → ¬ Breaks registers m before e)
    → Breaks registers rule before e → IsTrue (is_told registers rule before e)
unfolding Breaks BreaksOutside BreaksUncovered
told registers Undefined before e none below broken = told_undefined registers before e none broken
told registers Redefined before e none below broken =
    told_redefined registers before e broken (below Register (lit< tt))
told registers Outside before e none below broken = told_outside registers before _ none broken
told registers Uncovered before e none below broken =
    and_from (has_box before) (not (paints_early before)) (told_outside registers before _ none broken.1)
    (told_late registers before none)
told registers _ before e none below broken = refl

-- so the rule counts
pub least_counts : (registers : ℕ) (rule : Rule) (before : List Event) (e : Event)
    → BreaksNone registers last_rule before
    → ((m : Rule) → number_of m < number_of rule → ¬ Breaks registers m before e)
    → Breaks registers rule before e → Counts registers rule before e
least_counts registers rule before e none below broken =
    record { broken = broken; told = told registers rule before e none below broken }

-- if none of the rules with a number below n counts, none of them is broken
pub none_broken : (registers n : ℕ) (before : List Event) (e : Event) → BreaksNone registers last_rule before
    → ((m : Rule) → number_of m < n → ¬ Counts registers m before e)
    → (m : Rule) → number_of m < n → ¬ Breaks registers m before e
none_broken registers zero before e none counts m lt broken = absurd (omega arith)
none_broken registers (suc n) before e none counts m lt broken =
    counts m lt (least_counts registers m before e none
    (λ k less. none_broken registers n before e none (λ j low. counts j (omega arith)) k (omega arith)) broken)
