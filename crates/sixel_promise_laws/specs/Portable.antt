-- What a `portable` line promises.
use Rattle.std.specs.Prelude.{◌≡◌, ◌↔◌, ◌+◌, ◌*◌, ◌<◌, ◌≤◌, ℕ, List, Result, Ok, length, slice_get}
use Rattle.sixel_grammar.specs.declared.command.Event.{Event}
use Rattle.sixel_grammar.specs.declared.command.Placed.{Placed}
use Rattle.sixel_grammar.specs.Document.{Document, events_of}
use Rattle.sixel_model.specs.declared.colour.Parts.{Parts}
use Rattle.sixel_model.specs.declared.profile.Profile.{Profile}
use Rattle.sixel_model.specs.Colours.{palette_at}
use Rattle.sixel_model.specs.Pictures.{PictureValue, register_of}
use Rattle.sixel_model.specs.Profiles.{count_of}
use Rattle.sixel_model.specs.Rules.{picture_left}
use Rattle.sixel_ppm.specs.Ppm.{colours_of}
use Rattle.sixel_terminal.specs.declared.choices.Choices.{Choices}
use Rattle.sixel_terminal.specs.Displays.{Display}
use Rattle.sixel_emulator.specs.Readings.{IsReading, IsSaid}
use Rattle.sixel_named_terminals.specs.declared.named.Named.{Named}
use Rattle.sixel_named_terminals.specs.Named.{heard_on, model_of, terminal_on}
use Rattle.sixel_judge.specs.Portable.{IsPortable, Shows}
use Rattle.sixel_emulator_rules.specs.declared.terminals.Terminals.{Terminals}
use Rattle.sixel_emulator_check_laws.specs.Shown.{IsHeeded}
use Rattle.sixel_report.specs.declared.fault.RunFault.{RunFault}
use Rattle.sixel_report.specs.declared.task.PictureFormat.TheVariants.{Ppm}
use Rattle.sixel_report.specs.declared.task.Status.{Status}
use Rattle.sixel_report.specs.declared.task.Status.TheVariants.{Done}
use Rattle.sixel_report.specs.declared.task.Task.TheVariants.{Check, Render}
use Rattle.sixel_report.specs.Texts.{Text, portable_line}
use Rattle.sixel_run.specs.Outputs.{Gives, picture_output}

-- `render` gives the PPM of the picture, or NotRgb and no text if the colour of some pixel isn't RGB, and nothing else.
-- There is a colour for each pixel, row by row: that of its register
pub record IsRendered (profile : Profile) (bytes : List ℕ) (p : PictureValue) : Type 0 where
  pub gives : (text : Text) (answer : Result Status RunFault)
      → Gives (Render profile Ppm) bytes text answer ↔ ((text, answer) ≡ picture_output p)
  pub pixels : length (colours_of p) ≡ p.width * p.height
  pub colours : (x y : ℕ) → x < p.width → y < p.height
      → slice_get (colours_of p) (y * p.width + x) ≡ palette_at p.palette (register_of p x y)

-- ---- named terminals

abbrev pub with_origin : ℕ → ℕ → Choices → Choices
with_origin x y c = record c { origin_x = x; origin_y = y }

-- the same terminal, but it draws from this column and row
abbrev pub from_origin : ℕ → ℕ → Display → Display
from_origin x y t = record t { choices = with_origin x y t.choices }

-- the model of the terminal says all. On a screen of the background with these sides it shows the picture, whose top
-- left is in this column and row, and nothing is painted outside the picture
pub record IsShownFrom (named : Named) (background : Parts) (sides : ℕ × ℕ) (x y : ℕ) (events : List Event)
    (p : PictureValue) : Type 0 where
  pub said : IsSaid (model_of named) events
  pub drawing : List Event
  pub is_reading : IsReading (model_of named) events drawing
  pub shows : Shows (from_origin x y (terminal_on named background ((model_of named).opening events) sides)) drawing p

-- each terminal of the set that is heeded shows the picture from each origin with room, on each screen of one colour: of
-- the document of these bytes, as the terminal hears it
abbrev pub IsShownFromEach : Terminals → List ℕ → List Placed → PictureValue → Type 0
IsShownFromEach t bytes events p =
    (named : Named) (background : Parts) (width height x y : ℕ) → IsHeeded t named → x + p.width ≤ width
    → y + p.height ≤ height
    → IsShownFrom named background (width, height) x y (events_of (heard_on named bytes events)) p

-- ---- the law

-- the bytes are a document that leaves the picture. The picture has the size of the declared box, and each terminal of
-- the class with room shows it in the box and paints nothing outside; `render` writes it; and each terminal of the set
-- that is heeded shows it
pub record IsTruePortable (profile : Profile) (t : Terminals) (bytes : List ℕ) (p : PictureValue) : Type 0 where
  pub events : List Placed
  pub document : Document events bytes
  pub left : p ≡ picture_left (count_of profile) (events_of events)
  pub everywhere : IsPortable (count_of profile) (events_of events) p
  pub rendered : IsRendered profile bytes p
  pub named : IsShownFromEach t bytes events p

-- if a check for these terminals, perhaps none, is done, its text is the line of such a picture
abbrev pub PortableLineIsTrue : Type 0
PortableLineIsTrue =
    (profile : Profile) (t : Terminals) (bytes : List ℕ) (text : Text) → Gives (Check profile t) bytes text (Ok Done)
    → (p : PictureValue) × (text ≡ portable_line p) × IsTruePortable profile t bytes p
