use Rattle.std.proofs.Common.{◌++◌, List, take}
use Rattle.sixel_grammar.specs.declared.command.Event.{Event}
use Rattle.sixel_terminal.specs.Stretches.{sixels_of}
use Rattle.sixel_mend.specs.Measures.{Measures}
use Rattle.sixel_mend.proofs.extent.Extent.follow_each.Given as goal

abbrev pub invariant-loop-byte : goal.invariant-loop-byte
invariant-loop-byte l =
    (before : List Event) → Measures l.fn.self before
    → Measures l.self (before ++ sixels_of (take l.byte-index l.bytes))
