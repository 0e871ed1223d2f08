-- The plain terminal that draws what the reading of mlterm gives.
use Rattle.std.specs.Prelude.{ℕ, false, List, [], ◌∷◌, map, slice_index_or}
use Rattle.std.specs.List.{range_with_len}
use Rattle.sixel_model.specs.declared.colour.Parts.{Parts}
use Rattle.sixel_model.specs.declared.colour.Parts.TheVariants.{Rgb}
use Rattle.sixel_terminal.specs.declared.choices.Choices.{Choices}
use Rattle.sixel_terminal.specs.declared.choices.Ground.TheVariants.{Kept}
use Rattle.sixel_terminal.specs.Displays.{Display}
use Rattle.sixel_terminal.specs.Limits.{display_of, plain_screen}
use Rattle.sixel_emulator.specs.Settings.{plain_choices}

-- mlterm keeps the ground, and paints in the colour that the register has then. 0 is selected at the start
abbrev pub mlterm_choices : ℕ → ℕ → Choices
mlterm_choices width height = plain_choices false Kept 0 width height

-- its registers start with the background, but for register 0, which starts with the text's colour: black
abbrev pub mlterm_start : Parts → ℕ → Parts
mlterm_start background register = slice_index_or (Rgb 0 0 0 ∷ []) register background

unfoldable pub mlterm_colours : Parts → List Parts
mlterm_colours background = map (mlterm_start background) (range_with_len 0 1024)

-- mlterm, on a screen of the background
abbrev pub mlterm_display : Parts → ℕ → ℕ → Display
mlterm_display background width height =
    display_of (mlterm_choices width height) (mlterm_colours background)
    (plain_screen (mlterm_choices width height) background)
