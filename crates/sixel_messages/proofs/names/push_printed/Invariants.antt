use Rattle.std.proofs.Common.{◌≡◌, ◌++◌, encode_utf8_all, flat_map}
use Rattle.sixel_printing.specs.Printing.{printed_char}
use Rattle.sixel_messages.proofs.names.push_printed.Given as goal

abbrev pub invariant-loop-c : goal.invariant-loop-c
invariant-loop-c g l = l.line.items ≡ l.initial.line.items ++ encode_utf8_all (flat_map printed_char l.yielded)
