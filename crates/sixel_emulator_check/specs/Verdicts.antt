-- Verdicts for named terminals on a list of events with their places.
use Rattle.std.specs.Prelude.{◌≡◌, ◌≤◌, ◌<◌, ℕ, List, Some, IsTrue, slice_get}
use Rattle.std.specs.Option.{option_map}
use Rattle.sixel_grammar.specs.declared.command.Event.{Event}
use Rattle.sixel_grammar.specs.declared.command.Placed.{Placed}
use Rattle.sixel_grammar.specs.Document.{events_of}
use Rattle.sixel_model.specs.Positions.{HoldsAtPosition}
use Rattle.sixel_model.specs.Rules.{Breaks, BreaksNone, last_rule, picture_left}
use Rattle.sixel_model.specs.declared.rule.Rule.{Rule}
use Rattle.sixel_judge.specs.Portable.{IsPortable}
use Rattle.sixel_judge.specs.Verdicts.{IsFinding}
use Rattle.sixel_judge.specs.declared.verdict.Finding.{Finding}
use Rattle.sixel_emulator_rules.specs.Asked.{BreaksAsked, BreaksNoneAsked, IsFirstAsked, is_asked}
use Rattle.sixel_emulator_rules.specs.declared.asking.AskedFinding.{AskedFinding}
use Rattle.sixel_emulator_rules.specs.declared.rule.AskedRule.{AskedRule}
use Rattle.sixel_emulator_rules.specs.declared.terminals.Terminals.{Terminals}
use Rattle.sixel_emulator_check.specs.declared.verdict.NamedOutcome.{NamedOutcome}
use Rattle.sixel_emulator_check.specs.declared.verdict.NamedOutcome.TheVariants as outcome
use Rattle.sixel_emulator_check.specs.declared.verdict.NamedVerdict.{NamedVerdict}
use Rattle.sixel_emulator_check.specs.declared.verdict.NamedVerdict.TheVariants.{Portable, Broken, Asked}

-- the finding is the first broken rule of those of portable pictures, its event has position i, and no rule that is
-- asked for is broken earlier
pub record IsFindingOn (registers : ℕ) (t : Terminals) (placed : List Placed) (f : Finding) (i : ℕ) : Type 0 where
  pub finding : IsFinding registers placed f i
  pub none_asked_earlier : (m : AskedRule) (j : ℕ) → j < i → IsTrue (is_asked t m)
      → ¬ HoldsAtPosition (BreaksAsked m) (events_of placed) j

-- the finding is the first broken rule of those that are asked for, its event has position i, and no rule of portable
-- pictures is broken there or earlier
pub record IsAskedOn (registers : ℕ) (t : Terminals) (placed : List Placed) (f : AskedFinding) (i : ℕ) : Type 0 where
  pub first : IsFirstAsked t (events_of placed) f.rule i
  pub place : option_map (λ (p : Placed). p.place) (slice_get placed i) ≡ Some f.place
  pub none_broken : (m : Rule) (j : ℕ) → j ≤ i → ¬ HoldsAtPosition (Breaks registers m) (events_of placed) j

-- the verdict: the picture that the events leave if no rule is broken, else the first broken rule
abbrev pub IsVerdictOn : ℕ → Terminals → List Placed → NamedVerdict → Type 0
IsVerdictOn registers t placed (Portable picture) =
    BreaksNone registers last_rule (events_of placed) × BreaksNoneAsked t (events_of placed)
    × (picture ≡ picture_left registers (events_of placed))
IsVerdictOn registers t placed (Broken f) = (i : ℕ) × IsFindingOn registers t placed f i
IsVerdictOn registers t placed (Asked f) = (i : ℕ) × IsAskedOn registers t placed f i

-- the picture of a verdict is portable
abbrev pub IsRightOn : ℕ → List Event → NamedVerdict → Type 0
IsRightOn registers events (Portable picture) = IsPortable registers events picture
IsRightOn registers events (Broken f) = Unit {0}
IsRightOn registers events (Asked f) = Unit {0}

-- what is left of a verdict without the picture: its size, or the finding
abbrev pub named_outcome_of : NamedVerdict → NamedOutcome
named_outcome_of (Portable picture) = outcome.Portable picture.width picture.height
named_outcome_of (Broken f) = outcome.Broken f
named_outcome_of (Asked f) = outcome.Asked f
