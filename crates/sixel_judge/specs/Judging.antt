-- What a judge knows of the events that it has seen, while no rule is broken.
use Rattle.std.specs.Prelude.{◌≡◌, ◌<◌, ◌≤◌, ◌*◌, ℕ, false, Option, Some, None, IsTrue, List, is_some, length}
use Rattle.std.specs.Option.{option_map}
use Rattle.sixel_grammar.specs.declared.command.Event.{Event}
use Rattle.sixel_grammar.specs.declared.command.Placed.{Placed}
use Rattle.sixel_grammar.specs.Document.{events_of}
use Rattle.sixel_model.specs.Events.{Attributes}
use Rattle.sixel_model.specs.Pictures.{is_side}
use Rattle.sixel_model.specs.Profiles.{count_of}
use Rattle.sixel_model.specs.Rules.{Breaks, BreaksNone, is_covered, last_rule, raster_before, register_at}
use Rattle.sixel_model.specs.Grids.{Grid, cell}
use Rattle.sixel_model.specs.declared.profile.Profile.{Profile}
use Rattle.sixel_model.specs.declared.rule.Rule.{Rule}
use Rattle.sixel_judge.specs.declared.judge.Judge.{Judge}
use Rattle.sixel_judge.specs.declared.notes.Notes.{Notes}
use Rattle.sixel_judge.specs.declared.verdict.Finding.{Finding}
use Rattle.sixel_judge.specs.Notes.{IsNotesAfter}
use Rattle.sixel_judge.specs.Verdicts.{IsFinding}

-- the box of a grid
abbrev pub box_of : Grid → Attributes
box_of s = record { pan = 1; pad = 1; width = s.width; height = s.height }

-- no raster attributes yet, and no point is covered
pub record IsUndrawn (events : List Event) : Type 0 where
  pub no_box : raster_before events ≡ None
  pub uncovered : (x y : ℕ) → is_covered events x y ≡ false
  pub no_register : (x y : ℕ) → register_at events x y ≡ None

-- the grid has the size of the box, and each pixel has what is kept of the register that painted it last, if any
pub record IsDrawn (kept : ℕ → ℕ) (s : Grid) (events : List Event) : Type 0 where
  pub box : raster_before events ≡ Some (box_of s)
  pub width : IsTrue (is_side s.width)
  pub height : IsTrue (is_side s.height)
  pub pixels : length s.cells ≡ s.width * s.height
  pub registers : (x y : ℕ) → x < s.width → y < s.height → cell s x y ≡ option_map kept (register_at events x y)
  pub covered : (x y : ℕ) → x < s.width → y < s.height → is_some (cell s x y) ≡ is_covered events x y

-- the grid that the events leave, with what is kept of the registers: none before the first raster attributes
abbrev pub IsGridAfter : (ℕ → ℕ) → Option Grid → List Event → Type 0
IsGridAfter kept None events = IsUndrawn events
IsGridAfter kept (Some s) events = IsDrawn kept s events

-- the event breaks no rule
abbrev pub BreaksNoRule : ℕ → List Event → Event → Type 0
BreaksNoRule registers before e = (rule : Rule) → ¬ Breaks registers rule before e

-- no rule is broken, for at most 256 registers, and the notes and the grid are those after the events
pub record StandsUnbroken (registers : ℕ) (kept : ℕ → ℕ) (notes : Notes) (grid : Option Grid) (events : List Event) :
    Type 0 where
  pub unbroken : BreaksNone registers last_rule events
  pub bytes : registers ≤ 256
  pub notes_are : IsNotesAfter notes events
  pub grid_is : IsGridAfter kept grid events

-- the finding is the first broken rule; or there is none, and no rule is broken
abbrev pub JudgesAfter : (ℕ → ℕ) → Profile → Option Finding → Notes → Option Grid → List Placed → Type 0
JudgesAfter kept profile None notes grid placed = StandsUnbroken (count_of profile) kept notes grid (events_of placed)
JudgesAfter kept profile (Some finding) notes grid placed =
    (i : ℕ) × IsFinding (count_of profile) placed finding i

-- the same of a judge, whose plane has this grid
abbrev pub HasJudged : {P : Type 0} → (ℕ → ℕ) → (P → Grid) → Judge P → List Placed → Type 0
HasJudged kept grid judge placed =
    JudgesAfter kept judge.profile judge.finding judge.notes (option_map grid judge.plane) placed
