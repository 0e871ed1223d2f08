use Rattle.std.proofs.Common.{◌++◌, List, take}
use Rattle.sixel_grammar.specs.declared.command.Event.{Event}
use Rattle.sixel_terminal.specs.Stretches.{sixels_of}
use Rattle.sixel_mlterm.specs.MlTermSeen.{HasSeenMlTerm}
use Rattle.sixel_mlterm.proofs.mlterm.MlTerm.see_each.Given as goal

abbrev pub invariant-loop-byte : goal.invariant-loop-byte
invariant-loop-byte l = (before : List Event) → HasSeenMlTerm l.fn.self before
    → HasSeenMlTerm l.self (before ++ sixels_of (take l.byte-index l.bytes))
