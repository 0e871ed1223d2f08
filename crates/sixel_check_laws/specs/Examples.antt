-- That the promises aren't empty: some list breaks no rule, and some terminal has room.
use Rattle.std.specs.Prelude.{ℕ, false, List, [], ◌∷◌}
use Rattle.sixel_grammar.specs.declared.command.Command.TheVariants.{Sixel, Raster, Select, Define}
use Rattle.sixel_grammar.specs.declared.command.Event.{Event}
use Rattle.sixel_grammar.specs.declared.command.Event.TheVariants.{Start, Step, Finish}
use Rattle.sixel_grammar.specs.Document.{AreWhole}
use Rattle.sixel_model.specs.Rules.{BreaksNone, last_rule}
use Rattle.sixel_terminal.specs.Displays.{Display, HasRoom, IsInClass}

-- a box of one pixel, painted in a register that is defined and selected
abbrev pub one_pixel : List Event
one_pixel =
    Start false (record { items = 0 ∷ [] }) ∷ Step (Raster 1 1 1 1) ∷ Step (Define 0 2 0 0 0) ∷ Step (Select 0)
    ∷ Step (Sixel 1) ∷ Finish false ∷ []

-- it is a whole list and breaks no rule, so the laws on such lists aren't empty
abbrev pub OnePixelBreaksNone : ℕ → Type 0
OnePixelBreaksNone registers = AreWhole one_pixel × BreaksNone registers last_rule one_pixel

-- for any count of registers and any size of a picture, some terminal of the class has room
abbrev pub SomeTerminalHasRoom : Type 0
SomeTerminalHasRoom = (registers width height : ℕ) → (t : Display) × IsInClass registers t × HasRoom t width height
