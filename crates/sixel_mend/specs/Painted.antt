-- What is painted on the screen, and how much of it can't be told from what isn't.
use Rattle.std.specs.Prelude.{ℕ, List, Option, count_by, is_none, if◌then◌else◌}
use Rattle.std.specs.List.{list_any}
use Rattle.sixel_grammar.specs.declared.command.Event.{Event}
use Rattle.sixel_model.specs.declared.colour.Parts.{Parts}
use Rattle.sixel_model.specs.Colours.{is_entry}
use Rattle.sixel_model.specs.Grids.{row_by_row}
use Rattle.sixel_model.specs.Positions.{last_at}
use Rattle.sixel_terminal.specs.Drawing.{inked_on}
use Rattle.sixel_mend.specs.declared.mending.Mending.{Mending}
use Rattle.sixel_mend.specs.Screens.{mending_terminal}

-- the colour in which the pixel in this column and row is painted last; None if no event paints it
abbrev pub painted_at : Mending → List Event → ℕ → ℕ → ℕ → ℕ → Option Parts
painted_at m events width height x y = last_at (inked_on (mending_terminal m width height) events x y) events

-- the same for each pixel of the screen, row by row
unfoldable pub painted_colours : Mending → List Event → ℕ → ℕ → List (Option Parts)
painted_colours m events width height = row_by_row width height (painted_at m events width height)

-- how many of these pixels are painted in the background's colour, if some pixel isn't painted; 0 if each one is
abbrev pub hidden_among : Parts → List (Option Parts) → ℕ
hidden_among background painted = if list_any is_none painted then count_by (is_entry background) painted else 0

-- how many painted pixels of the screen look like those that aren't painted
unfoldable pub hidden_pixels : Mending → List Event → ℕ → ℕ → ℕ
hidden_pixels m events width height = hidden_among m.background (painted_colours m events width height)
