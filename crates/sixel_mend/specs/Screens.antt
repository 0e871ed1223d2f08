-- The terminal that shows a string.
use Rattle.std.specs.Prelude.{ℕ, ◌%◌, true, false, List, map, slice_index_or}
use Rattle.std.specs.List.{range_with_len}
use Rattle.sixel_model.specs.declared.colour.Parts.{Parts}
use Rattle.sixel_model.specs.declared.colour.Parts.TheVariants.{Rgb}
use Rattle.sixel_terminal.specs.declared.choices.Choices.{Choices}
use Rattle.sixel_terminal.specs.declared.choices.Ground.{Ground}
use Rattle.sixel_terminal.specs.declared.choices.Ground.TheVariants.{Kept}
use Rattle.sixel_terminal.specs.Displays.{Display}
use Rattle.sixel_terminal.specs.Limits.{display_of, plain_screen}
use Rattle.sixel_terminal.specs.Starts.{vt340_colours}
use Rattle.sixel_mend.specs.declared.mending.Mending.{Mending}

-- the colour with which a register starts: that of the register modulo 16 of a VT340
abbrev pub starting_colour : ℕ → Parts
starting_colour register = slice_index_or vt340_colours (register % 16) (Rgb 0 0 0)

-- the colours with which the 256 registers start
unfoldable pub starting_colours : List Parts
starting_colours = map starting_colour (range_with_len 0 256)

-- showing and selects are asked for, and the size of the screen is given; the other choices are fixed
abbrev pub mending_choices : Mending → ℕ → ℕ → Choices
mending_choices m width height = let ground : Ground = Kept in record {
  binds_at_showing = m.showing;
  selects = m.selects;
  ground = ground;
  selected = 0;
  zero = 1;
  clamps = true;
  clips = false;
  eight_bit = true;
  tall = 1;
  screen_width = width;
  screen_height = height;
  origin_x = 0;
  origin_y = 0;
}

-- the terminal, with a screen of this width and height, each pixel of which is the background
abbrev pub mending_terminal : Mending → ℕ → ℕ → Display
mending_terminal m width height =
    let choices = mending_choices m width height in
    display_of choices starting_colours (plain_screen choices m.background)
