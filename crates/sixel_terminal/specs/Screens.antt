-- The screen after a drawing.
use Rattle.std.specs.Prelude.{◌≡◌, ℕ, List, map}
use Rattle.std.specs.List.{All}
use Rattle.sixel_grammar.specs.declared.command.Event.{Event}
use Rattle.sixel_model.specs.declared.colour.Parts.{Parts}
use Rattle.sixel_model.specs.declared.colour.Parts.TheVariants.{Rgb}
use Rattle.sixel_terminal.specs.declared.pixel.Ink.{Ink}
use Rattle.sixel_terminal.specs.declared.pixel.Ink.TheVariants.{Fixed, Bound}
use Rattle.sixel_terminal.specs.Displays.{Display}
use Rattle.sixel_terminal.specs.Drawing.{screen_on}

-- the width and the height in pixels, and the colours, row by row
pub record Shown : Type 0 where
  pub width : ℕ
  pub height : ℕ
  pub colours : List Parts

-- the screen is that of the terminal after the events
pub record IsScreenAfter (t : Display) (screen : Shown) (events : List Event) : Type 0 where
  pub width : screen.width ≡ t.choices.screen_width
  pub height : screen.height ≡ t.choices.screen_height
  pub colours : screen.colours ≡ screen_on t events

-- the colour of an ink; black for a register, which no pixel has after a drawing
abbrev pub colour_in_ink : Ink → Parts
colour_in_ink (Fixed colour) = colour
colour_in_ink (Bound register) = Rgb 0 0 0

-- the colours of inks
abbrev pub colours_in : List Ink → List Parts
colours_in inks = map colour_in_ink inks

abbrev pub IsFixed : Ink → Type 0
IsFixed (Fixed colour) = Unit {0}
IsFixed (Bound register) = ⊥

abbrev pub IsAllFixed : List Ink → Type 0
IsAllFixed inks = All IsFixed inks
