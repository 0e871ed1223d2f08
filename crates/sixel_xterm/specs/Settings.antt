-- The plain terminal that draws what the reading of xterm gives.
use Rattle.std.specs.Prelude.{ℕ, true, List, map, slice_index_or}
use Rattle.std.specs.List.{range_with_len}
use Rattle.sixel_model.specs.declared.colour.Parts.{Parts}
use Rattle.sixel_model.specs.declared.colour.Parts.TheVariants.{Rgb}
use Rattle.sixel_terminal.specs.declared.choices.Choices.{Choices}
use Rattle.sixel_terminal.specs.declared.choices.Ground.TheVariants.{Filled}
use Rattle.sixel_terminal.specs.Displays.{Display}
use Rattle.sixel_terminal.specs.Limits.{display_of, plain_screen}
use Rattle.sixel_terminal.specs.Starts.{vt340_colours}
use Rattle.sixel_emulator.specs.Settings.{plain_choices}

-- xterm fills the box with register 0, and shows the colours that registers have at the end. 3 is selected at the start
abbrev pub xterm_choices : ℕ → ℕ → Choices
xterm_choices width height = plain_choices true (Filled 0) 3 width height

-- the other registers of xterm start black
abbrev pub xterm_start : ℕ → Parts
xterm_start register = slice_index_or vt340_colours register (Rgb 0 0 0)

unfoldable pub xterm_colours : List Parts
xterm_colours = map xterm_start (range_with_len 0 1024)

-- xterm, on a screen of the background
abbrev pub xterm_display : Parts → ℕ → ℕ → Display
xterm_display background width height =
    display_of (xterm_choices width height) xterm_colours (plain_screen (xterm_choices width height) background)
