-- What a terminal stores after a list of events. `HasDrawn` of `Drawings` builds on it; `Drawing` defines what a
-- terminal shows.
use Rattle.std.specs.Prelude.{◌≡◌, ◌<◌, ◌++◌, ℕ, ◌+◌, ◌*◌, ◌/◌, ◌%◌, EachIndex, List, Option, drop, length, map, min}
use Rattle.std.specs.Prelude.{slice_index_or, take, unwrap_or, if◌then◌else◌}
use Rattle.std.specs.Option.{option_map}
use Rattle.sixel_grammar.specs.declared.command.Event.{Event}
use Rattle.sixel_model.specs.declared.colour.Parts.{Parts}
use Rattle.sixel_model.specs.declared.colour.Parts.TheVariants.{Rgb}
use Rattle.sixel_model.specs.Geometry.{band, column}
use Rattle.sixel_model.specs.Positions.{last_at}
use Rattle.sixel_model.specs.Rules.{raster_before}
use Rattle.sixel_terminal.specs.declared.choices.Ground.{Ground}
use Rattle.sixel_terminal.specs.declared.pixel.Ink.{Ink}
use Rattle.sixel_terminal.specs.declared.pixel.Ink.TheVariants.{Fixed, Bound}
use Rattle.sixel_terminal.specs.declared.pen.Pen.{Pen}
use Rattle.sixel_terminal.specs.Canvases.{black}
use Rattle.sixel_terminal.specs.Displays.{Display, registers_of}
use Rattle.sixel_terminal.specs.Drawing.{height_of, map_on, paints_on, selected_on}
use Rattle.sixel_terminal.specs.Steps.{ink_over, most, sides_of}

-- the ink for painting in a register
abbrev pub ink_in_register : Display → List Event → ℕ → Ink
ink_in_register t before r = if t.choices.binds_at_showing then Bound r else Fixed (map_on t before r)

-- the ink in which an event paints the pixel, if the terminal sees the string
abbrev pub inked_by : Display → ℕ → ℕ → List Event → Event → Option Ink
inked_by t x y before e = option_map (ink_in_register t before) (paints_on t before e x y)

-- the ink of the pixel after the events
unfoldable pub ink_at_point : Display → List Event → ℕ → ℕ → Ink
ink_at_point t before x y =
    unwrap_or (last_at (inked_by t x y) before)
    (Fixed (slice_index_or t.screen (y * t.choices.screen_width + x) (Rgb 0 0 0)))

pub record IsPenAfter (t : Display) (before : List Event) (p : Pen) : Type 0 where
  pub column_is : p.column ≡ min (column t.choices.zero before) most
  pub band_is : p.band ≡ min (band before) most
  pub height_is : p.height ≡ height_of t before
  pub declared_is : p.declared ≡ option_map sides_of (raster_before before)
  pub selected_is : p.selected ≡ selected_on t before
  pub selected_below : p.selected < registers_of t

-- the pen, the colour of each register, and the ink of each pixel are those after the events
pub record StandsAfter (t : Display) (before : List Event) (p : Pen) (colours : List Parts)
    (inks : List Ink) : Type 0 where
  pub pen : IsPenAfter t before p
  pub registers : length colours ≡ registers_of t
  pub colours_are : (r : ℕ) → r < registers_of t → slice_index_or colours r (Rgb 0 0 0) ≡ map_on t before r
  pub pixels : length inks ≡ t.choices.screen_width * t.choices.screen_height
  pub inks_are : (i : ℕ) → i < t.choices.screen_width * t.choices.screen_height
      → slice_index_or inks i black ≡ ink_at_point t before (i % t.choices.screen_width) (i / t.choices.screen_width)

-- the colour that an ink shows if the registers have these colours
abbrev pub shown_in : List Parts → Ink → Parts
shown_in colours (Fixed c) = c
shown_in colours (Bound r) = slice_index_or colours r (Rgb 0 0 0)

-- the register of an ink is one of the first n
abbrev pub IsInkBelow : ℕ → Ink → Type 0
IsInkBelow n (Fixed colour) = Unit {0}
IsInkBelow n (Bound register) = register < n

-- each register of an ink is one of the first n
abbrev pub AreInksBelow : ℕ → List Ink → Type 0
AreInksBelow n inks = EachIndex inks (λ i. IsInkBelow n (slice_index_or inks i black))

-- the colour that an ink shows over a ground
abbrev pub shown_over : List Parts → Ground → Ink → Parts
shown_over colours under ink = shown_in colours (ink_over under ink)

-- the ink of a pixel with the colour that it shows over a ground
abbrev pub fixed_at : List Parts → Ground → List Ink → ℕ → Ink
fixed_at colours under inks at = Fixed (shown_over colours under (slice_index_or inks at black))

-- the first n inks have the colours that they show over a ground
abbrev pub fixed_below : List Parts → Ground → ℕ → List Ink → List Ink
fixed_below colours under n inks = map (λ ink. Fixed (shown_over colours under ink)) (take n inks) ++ drop n inks
