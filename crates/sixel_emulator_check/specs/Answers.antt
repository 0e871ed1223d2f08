-- What the result of a check for named terminals claims.
use Rattle.std.specs.Prelude.{◌≡◌, ℕ, List, Result, Ok, Err}
use Rattle.sixel_grammar.specs.Document.{Document, events_of}
use Rattle.sixel_grammar.specs.Reading.{Explains}
use Rattle.sixel_grammar.specs.declared.command.Placed.{Placed}
use Rattle.sixel_grammar.specs.declared.fault.InputFault.{InputFault}
use Rattle.sixel_emulator_rules.specs.declared.terminals.Terminals.{Terminals}
use Rattle.sixel_emulator_check.specs.Verdicts.{IsRightOn, named_outcome_of}
use Rattle.sixel_emulator_check.specs.Written.{IsVerdictOf}
use Rattle.sixel_emulator_check.specs.declared.verdict.NamedOutcome.{NamedOutcome}
use Rattle.sixel_emulator_check.specs.declared.verdict.NamedVerdict.{NamedVerdict}

-- Ok: the bytes are a document, the verdict is that on it, and a picture is portable; Err: a grammar fault is
-- the fault of these bytes. Each terminal of the set shows the picture, by a law of `sixel_emulator_check_laws`
abbrev pub AnswersOn : ℕ → Terminals → Result NamedVerdict InputFault → List ℕ → Type 0
AnswersOn registers t (Ok verdict) bytes =
    (events : List Placed) × Document events bytes × IsVerdictOf registers t bytes events verdict
    × IsRightOn registers (events_of events) verdict
AnswersOn registers t (Err fault) bytes = Explains fault bytes

-- the same without the picture: the outcome is that of a verdict that answers
abbrev pub AnswersOutcomeOn : ℕ → Terminals → Result NamedOutcome InputFault → List ℕ → Type 0
AnswersOutcomeOn registers t (Ok outcome) bytes =
    (verdict : NamedVerdict) × AnswersOn registers t (Ok verdict) bytes × (outcome ≡ named_outcome_of verdict)
AnswersOutcomeOn registers t (Err fault) bytes = Explains fault bytes
