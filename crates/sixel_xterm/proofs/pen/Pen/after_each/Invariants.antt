use Rattle.std.proofs.Common.{◌≡◌, ◌++◌, List, take}
use Rattle.sixel_grammar.specs.declared.command.Event.{Event}
use Rattle.sixel_terminal.specs.Stretches.{sixels_of}
use Rattle.sixel_xterm.specs.XTerm.{is_past_rows, xterm_pen}
use Rattle.sixel_xterm.proofs.pen.Pen.after_each.Given as goal

abbrev pub invariant-loop-byte : goal.invariant-loop-byte
invariant-loop-byte l =
    (before : List Event) → l.fn.self ≡ xterm_pen before → l.is_past ≡ is_past_rows before
    → l.pen ≡ xterm_pen (before ++ sixels_of (take l.byte-index l.bytes))
