-- What the result of a check claims: of a portable picture, of a broken rule and of a refusal.
use Rattle.std.specs.Prelude.{◌≡◌, ℕ, List, Result, Ok, Err}
use Rattle.sixel_grammar.specs.Document.{Document, events_of}
use Rattle.sixel_grammar.specs.Reading.{Explains}
use Rattle.sixel_grammar.specs.declared.command.Placed.{Placed}
use Rattle.sixel_grammar.specs.declared.fault.InputFault.{InputFault}
use Rattle.sixel_judge.specs.Alarms.{MattersUnlessConservative}
use Rattle.sixel_judge.specs.Portable.{IsShownEverywhere}
use Rattle.sixel_judge.specs.Verdicts.{IsVerdict, outcome_of}
use Rattle.sixel_judge.specs.declared.verdict.Outcome.{Outcome}
use Rattle.sixel_judge.specs.declared.verdict.Verdict.{Verdict}

-- Ok: the bytes are a document, the verdict is that on its events, a picture is portable, and a finding matters, unless
-- its rule is conservative; Err: a grammar fault is the fault of these bytes
abbrev pub Answers : ℕ → Result Verdict InputFault → List ℕ → Type 0
Answers registers (Ok verdict) bytes =
    (events : List Placed) × Document events bytes × IsVerdict registers events verdict
    × IsShownEverywhere registers (events_of events) verdict × MattersUnlessConservative registers events verdict
Answers registers (Err fault) bytes = Explains fault bytes

-- the same without the picture: the outcome is that of a verdict that answers
abbrev pub AnswersOutcome : ℕ → Result Outcome InputFault → List ℕ → Type 0
AnswersOutcome registers (Ok outcome) bytes =
    (verdict : Verdict) × Answers registers (Ok verdict) bytes × (outcome ≡ outcome_of verdict)
AnswersOutcome registers (Err fault) bytes = Answers registers (Err fault) bytes
