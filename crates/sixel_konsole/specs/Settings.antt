-- The plain terminal that draws what the reading of konsole gives.
use Rattle.std.specs.Prelude.{ℕ, true, List, [], ◌∷◌, map, slice_index_or}
use Rattle.std.specs.List.{range_with_len}
use Rattle.sixel_model.specs.declared.colour.Parts.{Parts}
use Rattle.sixel_model.specs.declared.colour.Parts.TheVariants.{Rgb}
use Rattle.sixel_terminal.specs.declared.choices.Choices.{Choices}
use Rattle.sixel_terminal.specs.declared.choices.Ground.TheVariants.{Filled}
use Rattle.sixel_terminal.specs.Displays.{Display}
use Rattle.sixel_terminal.specs.Limits.{display_of, plain_screen}
use Rattle.sixel_emulator.specs.Settings.{plain_choices}

-- konsole fills the rectangle with register 0, and shows the colours that registers have at the end. 3 is selected at
-- the start. The height of a sixel pixel is that of the rectangle's ratio
abbrev pub konsole_choices : ℕ → ℕ → ℕ → Choices
konsole_choices tall width height =
    let choices : Choices = plain_choices true (Filled 0) 3 width height in record choices { tall = tall }

-- the colours of the first registers at the start
abbrev pub konsole_first : List Parts
konsole_first =
    Rgb 0 0 0 ∷ Rgb 20 20 80 ∷ Rgb 80 14 14 ∷ Rgb 20 80 20 ∷ Rgb 80 20 80 ∷ Rgb 20 80 80 ∷ Rgb 80 80 20
    ∷ Rgb 47 47 47 ∷ Rgb 27 27 27 ∷ Rgb 34 34 60 ∷ Rgb 60 27 27 ∷ Rgb 34 60 34 ∷ Rgb 60 34 60 ∷ Rgb 34 60 60
    ∷ Rgb 60 60 34 ∷ Rgb 80 80 80 ∷ []

-- the other registers start black
abbrev pub konsole_start : ℕ → Parts
konsole_start register = slice_index_or konsole_first register (Rgb 0 0 0)

unfoldable pub konsole_colours : List Parts
konsole_colours = map konsole_start (range_with_len 0 256)

-- konsole, on a screen of the background
abbrev pub konsole_display : Parts → ℕ → ℕ → ℕ → Display
konsole_display background tall width height =
    display_of (konsole_choices tall width height) konsole_colours
    (plain_screen (konsole_choices tall width height) background)
