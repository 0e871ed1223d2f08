use Rattle.std.proofs.Common.{◌≡◌, ◌++◌, List, ℕ, encode_utf8_all, flat_map}
use Rattle.sixel_io.proofs.SinkLemmas.{Written}
use Rattle.sixel_printing.specs.Printing.{printed_char}
use Rattle.sixel_messages.proofs.names.put_printed.Given as goal

-- what was written, and then the text that waits, are the characters so far
abbrev pub invariant-loop-c : goal.invariant-loop-c
invariant-loop-c g l =
    (sent : List ℕ) × Written (g.K.Sink.state l.initial.out) (g.K.Sink.state l.out) sent
    × (sent ++ l.text.items ≡ encode_utf8_all (flat_map printed_char l.yielded))
