use Rattle.std.proofs.Common.{◌≡◌, take}
use Rattle.sixel_grammar.specs.Document.{events_of}
use Rattle.sixel_terminal.specs.Drawings.{HasDrawn}
use Rattle.sixel_terminal.proofs.terminal.Terminal.show.Given as goal

abbrev pub invariant-loop-placed : goal.invariant-loop-placed
invariant-loop-placed l =
    (l.drawing.terminal ≡ l.self) × HasDrawn l.drawing (events_of (take l.placed-index l.events))
