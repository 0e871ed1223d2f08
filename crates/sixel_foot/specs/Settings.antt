-- The plain terminal that draws what the reading of foot gives.
use Rattle.std.specs.Prelude.{ℕ, false, List, replicate}
use Rattle.sixel_model.specs.declared.colour.Parts.{Parts}
use Rattle.sixel_terminal.specs.declared.choices.Choices.{Choices}
use Rattle.sixel_terminal.specs.declared.choices.Ground.TheVariants.{Kept}
use Rattle.sixel_terminal.specs.Displays.{Display}
use Rattle.sixel_terminal.specs.Limits.{display_of, plain_screen}
use Rattle.sixel_foot.specs.Foot.{foot_undefined}
use Rattle.sixel_emulator.specs.Settings.{plain_choices}

-- foot keeps the ground, and paints in the colour of the pen. At the start that is the colour of what was never defined
abbrev pub foot_choices : ℕ → ℕ → Choices
foot_choices width height = plain_choices false Kept foot_undefined width height

-- each register starts with the background; the introducer may give what was never defined another colour. Only two of
-- these sixteen are used
abbrev pub foot_colours : Parts → List Parts
foot_colours background = replicate 16 background

-- foot, on a screen of the background
abbrev pub foot_display : Parts → ℕ → ℕ → Display
foot_display background width height =
    display_of (foot_choices width height) (foot_colours background)
    (plain_screen (foot_choices width height) background)
