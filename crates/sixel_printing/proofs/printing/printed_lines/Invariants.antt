use Rattle.std.proofs.Common.{◌≡◌, encode_utf8_all, flat_map, string_bytes}
use Rattle.sixel_printing.specs.Printing.{printed_in_lines}
use Rattle.sixel_printing.proofs.printing.printed_lines.Given as goal

abbrev pub invariant-loop-c : goal.invariant-loop-c
invariant-loop-c l = string_bytes l.lines ≡ encode_utf8_all (flat_map printed_in_lines l.yielded)
