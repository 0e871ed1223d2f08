-- Surveys for named terminals.
use Rattle.std.specs.Prelude.{◌≡◌, ℕ, List, [], ◌∷◌, Option, Some, None}
use Rattle.sixel_grammar.specs.Document.{events_of}
use Rattle.sixel_grammar.specs.declared.command.Placed.{Placed}
use Rattle.sixel_model.specs.Pictures.{PictureValue}
use Rattle.sixel_model.specs.Rules.{picture_left}
use Rattle.sixel_survey.specs.Surveys.{AreEntries}
use Rattle.sixel_survey.specs.declared.entry.Entry.{Entry}
use Rattle.sixel_emulator_rules.specs.Tallies.{AreAskedEntries}
use Rattle.sixel_emulator_rules.specs.declared.tally.AskedEntry.{AskedEntry}
use Rattle.sixel_emulator_rules.specs.declared.terminals.Terminals.{Terminals}
use Rattle.sixel_emulator_check.specs.declared.surveying.NamedSurvey.{NamedSurvey}

-- the size of the picture, if there are no entries
abbrev pub size_without : List Entry → List AskedEntry → PictureValue → Option (ℕ × ℕ)
size_without [] [] p = Some (p.width, p.height)
size_without _ _ p = None

-- the size that a survey has beside the entries of the rules that are asked for
abbrev pub size_beside : List AskedEntry → Option (ℕ × ℕ) → Option (ℕ × ℕ)
size_beside [] size = size
size_beside (entry ∷ more) size = None

-- the survey: the entries, those of the rules that are asked for, and the size of the picture if there are none
pub record IsSurveyOn (registers : ℕ) (t : Terminals) (placed : List Placed) (survey : NamedSurvey) : Type 0 where
  pub entries : AreEntries registers placed survey.entries.items
  pub asked : AreAskedEntries t placed survey.asked.items
  pub size : survey.size
      ≡ size_without survey.entries.items survey.asked.items (picture_left registers (events_of placed))
