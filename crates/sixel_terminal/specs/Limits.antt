-- The parts of a `Terminal`. Its limits on the screen and on the registers aren't limits of the class.
use Rattle.std.specs.Prelude.{◌==◌, ◌&&◌, ℕ, ◌*◌, Bool, true, not, nat_le, nat_lt, Option, Some, None, List, length}
use Rattle.std.specs.Prelude.{replicate, if◌then◌else◌}
use Rattle.sixel_model.specs.declared.colour.Parts.{Parts}
use Rattle.sixel_terminal.specs.declared.choices.Choices.{Choices}
use Rattle.sixel_terminal.specs.declared.choices.Ground.{Ground}
use Rattle.sixel_terminal.specs.declared.choices.Ground.TheVariants.{Kept, Filled}
use Rattle.sixel_terminal.specs.declared.terminal.TerminalReason.{TerminalReason}
use Rattle.sixel_terminal.specs.declared.terminal.TerminalReason.TheVariants.{Registers, Selected}
use Rattle.sixel_terminal.specs.declared.terminal.TerminalReason.TheVariants.{Ground as GroundReason, Zero, Tall}
use Rattle.sixel_terminal.specs.declared.terminal.TerminalReason.TheVariants.{Screen, Origin}
use Rattle.sixel_terminal.specs.Displays.{Display}

abbrev pub display_of : Choices → List Parts → List Parts → Display
display_of choices colours screen = record { choices = choices; colours = colours; screen = screen }

-- the register of a filled ground is below `registers`
abbrev pub is_ground_below : ℕ → Ground → Bool
is_ground_below registers Kept = true
is_ground_below registers (Filled register) = nat_lt register registers

-- the greatest side of a screen, in pixels: a screen can be written as a PPM
abbrev pub most_screen_side : ℕ
most_screen_side = 4096

abbrev pub is_screen_side : ℕ → Bool
is_screen_side n = nat_le 1 n && nat_le n most_screen_side

-- the sides are in range, and there is one colour for each pixel
abbrev pub is_screen : Choices → List Parts → Bool
is_screen choices screen =
    is_screen_side choices.screen_width && is_screen_side choices.screen_height
    && (length screen == choices.screen_width * choices.screen_height)

-- a screen of these sides, all of one colour
abbrev pub plain_screen : Choices → Parts → List Parts
plain_screen choices colour = replicate (choices.screen_width * choices.screen_height) colour

-- the greatest count of registers: that of a named terminal
abbrev pub most_registers : ℕ
most_registers = 1024

-- the first reason why the parts don't make a terminal
abbrev pub terminal_fault : Choices → List Parts → List Parts → Option TerminalReason
terminal_fault choices colours screen =
    if not (nat_le 16 (length colours) && nat_le (length colours) most_registers) then Some Registers
    else if not (nat_lt choices.selected (length colours)) then Some Selected
    else if not (is_ground_below (length colours) choices.ground) then Some GroundReason
    else if not (nat_le choices.zero 1) then Some Zero
    else if choices.tall == 0 then Some Tall
    else if not (is_screen choices screen) then Some Screen
    else if not (nat_lt choices.origin_x choices.screen_width && nat_lt choices.origin_y choices.screen_height)
    then Some Origin
    else None
