-- What a surveyor has seen. Only contracts of private functions cite these.
use Rattle.std.specs.Prelude.{◌≡◌, ℕ, List, Option, length}
use Rattle.sixel_grammar.specs.declared.command.Placed.{Placed}
use Rattle.sixel_grammar.specs.Document.{events_of}
use Rattle.sixel_model.specs.Grids.{Grid}
use Rattle.sixel_model.specs.Profiles.{count_of}
use Rattle.sixel_model.specs.declared.profile.Profile.{Profile}
use Rattle.sixel_model.specs.declared.rule.Rule.{Rule}
use Rattle.sixel_judge.specs.declared.notes.Notes.{Notes}
use Rattle.sixel_survey.specs.declared.entry.Entry.{Entry}
use Rattle.sixel_judge.specs.Covering.{IsCoverAfter}
use Rattle.sixel_judge.specs.Notes.{IsNotesAfter}
use Rattle.sixel_survey.specs.Tallies.{IsTallyOf, tally_in}

-- the tallies of all rules
pub record AreTallies (registers : ℕ) (placed : List Placed) (tallies : List (Option Entry)) : Type 0 where
  pub rules : length tallies ≡ 13
  pub each : (rule : Rule) → IsTallyOf registers placed rule (tally_in tallies rule)

-- what a surveyor keeps: the notes, the covered pixels of the box, and the tallies
pub record SurveyorValue : Type 0 where
  pub profile : Profile
  pub notes : Notes
  pub grid : Option Grid
  pub tallies : List (Option Entry)

-- the surveyor, for this many registers, has seen these events
pub record HasSurveyed (registers : ℕ) (surveyor : SurveyorValue) (seen : List Placed) : Type 0 where
  pub registers_are : count_of surveyor.profile ≡ registers
  pub notes_are : IsNotesAfter surveyor.notes (events_of seen)
  pub grid_is : IsCoverAfter surveyor.grid (events_of seen)
  pub tallies_are : AreTallies registers seen surveyor.tallies
