-- Drawing events one by one.
use Rattle.std.specs.Prelude.{◌≡◌, Bool, List}
use Rattle.std.specs.List.{list_any}
use Rattle.sixel_grammar.specs.declared.command.Event.{Event}
use Rattle.sixel_grammar.specs.declared.command.Placed.{Placed}
use Rattle.sixel_grammar.specs.Document.{events_of}
use Rattle.sixel_model.specs.declared.colour.Parts.{Parts}
use Rattle.sixel_model.specs.Events.{is_eight_bit}
use Rattle.sixel_terminal.specs.declared.pen.Pen.{Pen}
use Rattle.sixel_terminal.specs.declared.pixel.Ink.{Ink}
use Rattle.sixel_terminal.specs.Displays.{Display}
use Rattle.sixel_terminal.specs.Standing.{StandsAfter}

-- a terminal, and what it stores while it draws
pub record Drawn : Type 0 where
  pub terminal : Display
  pub pen : Pen
  pub colours : List Parts
  pub inks : List Ink
  pub has_eight_bit : Bool

-- the drawing has come to the end of these events
pub record HasDrawn (d : Drawn) (events : List Event) : Type 0 where
  pub stands : StandsAfter d.terminal events d.pen d.colours d.inks
  pub controls : d.has_eight_bit ≡ list_any is_eight_bit events

-- the drawing is that of these events, on the terminal that it had at first
abbrev pub HasDrawnOn : Drawn → Drawn → List Placed → Type 0
HasDrawnOn first drawing seen = (drawing.terminal ≡ first.terminal) × HasDrawn drawing (events_of seen)
