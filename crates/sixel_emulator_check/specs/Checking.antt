-- A checker and an asking over the bytes of a document, and what is made of their answers.
use Rattle.std.specs.Prelude.{ℕ, List, Option, None, Some, Result, Ok, Err, ◌≡◌, nat_lt, if◌then◌else◌}
use Rattle.sixel_grammar.specs.Document.{Document}
use Rattle.sixel_grammar.specs.Reading.{Explains}
use Rattle.sixel_grammar.specs.declared.command.Placed.{Placed}
use Rattle.sixel_grammar.specs.declared.fault.InputFault.{InputFault}
use Rattle.sixel_judge.specs.Standing.{CheckerValue, StandsAfter}
use Rattle.sixel_judge.specs.declared.verdict.Finding.{Finding}
use Rattle.sixel_judge.specs.declared.verdict.Outcome.{Outcome}
use Rattle.sixel_judge.specs.declared.verdict.Outcome.TheVariants as size
use Rattle.sixel_emulator_rules.specs.Asking.{HasAsked}
use Rattle.sixel_emulator_rules.specs.declared.asking.AskedFinding.{AskedFinding}
use Rattle.sixel_emulator_rules.specs.declared.asking.Asking.{Asking}
use Rattle.sixel_emulator_rules.specs.declared.rule.AskedRule.{AskedRule}
use Rattle.sixel_emulator_rules.specs.declared.terminals.Terminals.{Terminals}
use Rattle.sixel_grammar.specs.declared.both.Both.{Both}
use Rattle.sixel_emulator_check.specs.declared.checking.Checked.{Checked}
use Rattle.sixel_emulator_check.specs.Looks.{HasLooked}
use Rattle.sixel_emulator_check.specs.declared.verdict.NamedOutcome.{NamedOutcome}
use Rattle.sixel_emulator_check.specs.declared.verdict.NamedOutcome.TheVariants as outcome

-- the checker has seen these events, and the asking has taken them for these terminals
pub record HaveTaken (registers : ℕ) (t : Terminals) (both : Both CheckerValue Asking) (placed : List Placed) :
    Type 0 where
  pub seen : StandsAfter registers both.one placed
  pub terminals : both.other.terminals ≡ t
  pub asked : HasAsked both.other placed

-- Ok: the bytes are a document, both have taken its events, and its bytes were looked at; Err: a grammar fault is the
-- fault of these bytes
abbrev pub HaveTakenAll : ℕ → Terminals → Result Checked InputFault → List ℕ → Type 0
HaveTakenAll registers t (Ok checked) bytes =
    (events : List Placed) × Document events bytes × HaveTaken registers t checked.both events
    × HasLooked checked.looks bytes
HaveTakenAll registers t (Err fault) bytes = Explains fault bytes

-- ---- what is made of their answers

-- the finding of those asked for, if its place is before that of the other
abbrev pub earlier_than : Finding → Option AskedFinding → Option AskedFinding
earlier_than f None = None
earlier_than f (Some asked) = if nat_lt asked.place f.place then Some asked else None

abbrev pub broken_outcome_or : Finding → Option AskedFinding → NamedOutcome
broken_outcome_or f None = outcome.Broken f
broken_outcome_or f (Some asked) = outcome.Asked asked

-- the first of both findings, or the size of the picture; at the same place that of portable pictures
abbrev pub joined_outcome : Outcome → Option AskedFinding → NamedOutcome
joined_outcome (size.Portable width height) None = outcome.Portable width height
joined_outcome (size.Portable width height) (Some asked) = outcome.Asked asked
joined_outcome (size.Broken f) asked = broken_outcome_or f (earlier_than f asked)

-- the finding, or the other outcome, whose finding is at this offset; the earlier of the two
abbrev pub earlier_outcome : AskedFinding → ℕ → NamedOutcome → NamedOutcome
earlier_outcome found place o = if nat_lt found.place place then outcome.Asked found else o

abbrev pub outcome_with_finding : AskedFinding → NamedOutcome → NamedOutcome
outcome_with_finding found (outcome.Portable width height) = outcome.Asked found
outcome_with_finding found (outcome.Broken f) = earlier_outcome found f.place (outcome.Broken f)
outcome_with_finding found (outcome.Asked f) = earlier_outcome found f.place (outcome.Asked f)

-- the outcome, where a rule of which only bytes tell is broken first at this offset, if it is
abbrev pub outcome_with : AskedRule → Option ℕ → NamedOutcome → NamedOutcome
outcome_with rule None o = o
outcome_with rule (Some place) o = outcome_with_finding (record { rule = rule; place = place }) o
