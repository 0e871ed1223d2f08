use Rattle.std.proofs.Common.{◌≡◌, ◌++◌, List, take}
use Rattle.sixel_grammar.specs.declared.command.Event.{Event}
use Rattle.sixel_terminal.specs.Drawings.{HasDrawn}
use Rattle.sixel_terminal.specs.Stretches.{sixels_of}
use Rattle.sixel_terminal.proofs.drawing.Drawing.push_each.Given as goal

abbrev pub invariant-loop-byte : goal.invariant-loop-byte
invariant-loop-byte l =
    (l.self.terminal ≡ l.fn.self.terminal)
    × ((before : List Event) → HasDrawn l.fn.self before
    → HasDrawn l.self (before ++ sixels_of (take l.byte-index l.bytes)))
