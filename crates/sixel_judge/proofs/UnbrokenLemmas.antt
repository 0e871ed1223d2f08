-- What holds of events that break no rule.
use Rattle.std.proofs.Common.{◌≡◌, ◌<◌, ◌&&◌, ℕ, true, IsFalse, Option, Some, None, List, length, take, ap, ◌∙◌}
use Rattle.std.specs.Prelude.{IsSome, is_some, slice_get}
use Rattle.std.proofs.Math.Seq.{take-length}
use Rattle.std.proofs.lemmas.Bool.{and_parts, eqb-true}
use Rattle.sixel_grammar.specs.declared.command.Event.{Event}
use Rattle.sixel_model.specs.Events.{Definition, is_eight_bit, is_painting}
use Rattle.sixel_model.specs.Rules.{Breaks, BreaksNone, breaks_eight_bit, definition_of, is_painted_in, is_that, known}
use Rattle.sixel_model.specs.Rules.{last_rule}
use Rattle.sixel_model.specs.declared.rule.Rule.TheVariants.{EightBit}
use Rattle.sixel_model.proofs.RuleLemmas.{Keeps, is_false, keeps_at, none_drawn, none_keeps}
use Rattle.sixel_judge.specs.Judging.{BreaksNoRule}
use Rattle.sixel_judge.proofs.ColourLemmas.{known_in_range}
use Rattle.sixel_judge.proofs.OptionLemmas.{some_value}
use Rattle.sixel_judge.proofs.SteadyLemmas.{defined_there, steady_end}
use Rattle.sixel_judge.proofs.TellLemmas.{Passes, passes_somewhere}

-- an event that breaks no rule keeps each rule up to Uncovered
pub keeps : {registers : ℕ} (before : List Event) (e : Event) → BreaksNoRule registers before e
    → Keeps registers before e
keeps {registers} before e none = none_keeps registers before e (λ rule le. none rule)

-- and isn't an 8-bit control
pub seven_bits : (registers : ℕ) (before : List Event) (e : Event) → BreaksNoRule registers before e
    → IsFalse (is_eight_bit e)
unfolding Breaks breaks_eight_bit
seven_bits registers before e none = is_false (is_eight_bit e) (none EightBit)

-- the known register is one of the profile's
pub known_low : (registers r : ℕ) (before : List Event) → BreaksNone registers last_rule before
    → known before ≡ Some r → r < registers
known_low registers r before none is =
    known_in_range registers r (length before) before (none_drawn registers before none)
    (ap known (take-length before) ∙ is)

-- the register that a command paints in has a definition then, and at the end
pub defined_after : (registers r i : ℕ) (events : List Event) (e : Event) → BreaksNone registers last_rule events
    → slice_get events i ≡ Some e → is_painting e ≡ true → known (take i events) ≡ Some r
    → IsSome (definition_of events r)
defined_after registers r i events e none here paints is =
    let drawn = none_drawn registers events none in
    let d : (d : Definition) × (definition_of (take i events) r ≡ Some d) =
    some_value _ (defined_there r (keeps_at registers events drawn i e here) paints is) in
    ap is_some (steady_end registers r i events e d.0 drawn here paints is d.1).defined

that_is : (r : ℕ) (o : Option ℕ) → is_that r o ≡ true → o ≡ Some r
that_is r None h = cc
that_is r (Some q) h = ap Some (eqb-true q r h)

-- a register that a command painted in has a definition
pub painted_defined : (registers r : ℕ) (events : List Event) → BreaksNone registers last_rule events
    → is_painted_in events r ≡ true → IsSome (definition_of events r)
unfolding is_painted_in
painted_defined registers r events none painted =
    let p : Passes (λ earlier e. is_painting e && is_that r (known earlier)) events =
    passes_somewhere _ events painted in
    let parts = and_parts (is_painting p.item) (is_that r (known (take p.at events))) p.passes in
    defined_after registers r p.at events p.item none p.here parts.0 (that_is r (known (take p.at events)) parts.1)
