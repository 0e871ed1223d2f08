-- What the result of a survey claims.
use Rattle.std.specs.Prelude.{ℕ, List, Result, Ok, Err}
use Rattle.sixel_grammar.specs.Document.{Document}
use Rattle.sixel_grammar.specs.Reading.{Explains}
use Rattle.sixel_grammar.specs.declared.command.Placed.{Placed}
use Rattle.sixel_grammar.specs.declared.fault.InputFault.{InputFault}
use Rattle.sixel_survey.specs.declared.entry.Survey.{Survey}
use Rattle.sixel_survey.specs.Surveys.{IsSurvey}

-- Ok: the bytes are a document, and the survey is that of its events; Err: a grammar fault is the fault of these bytes
abbrev pub Answers : ℕ → Result Survey InputFault → List ℕ → Type 0
Answers registers (Ok survey) bytes =
    (events : List Placed) × Document events bytes × IsSurvey registers events survey
Answers registers (Err fault) bytes = Explains fault bytes
