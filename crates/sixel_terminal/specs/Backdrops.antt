-- What a terminal keeps of its screen. Only contracts of private functions and the view of a `Terminal` cite these.
use Rattle.std.specs.Prelude.{List}
use Rattle.sixel_model.specs.declared.colour.Parts.{Parts}
use Rattle.sixel_terminal.specs.declared.choices.Choices.{Choices}
use Rattle.sixel_terminal.specs.declared.terminal.Backdrop.{Backdrop}
use Rattle.sixel_terminal.specs.declared.terminal.Backdrop.TheVariants.{Plain, Pixels}
use Rattle.sixel_terminal.specs.Limits.{plain_screen}

-- the colours of the screen before the drawing, row by row
abbrev pub screen_of : Choices → Backdrop → List Parts
screen_of choices (Plain colour) = plain_screen choices colour
screen_of choices (Pixels colours) = colours.items
