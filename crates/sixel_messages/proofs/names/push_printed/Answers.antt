use Rattle.std.proofs.Common.{◌∙◌, ◌++◌, List, ℕ, ap, append_assoc, encode_utf8_all, flat_map, map-id, sym}
use Rattle.std.proofs.lemmas.Iterator.{YieldsList-from_chars}
use Rattle.std.proofs.lemmas.Iterator.Consumers.{YieldsList-end}
use Rattle.sixel_printing.specs.Printing.{printed_char}
use Rattle.sixel_printing.proofs.PrintingLemmas.{one_more}
use Rattle.sixel_messages.proofs.names.push_printed.Goals as goal

pub loop-c-preserved : goal.loop-c-preserved
loop-c-preserved g c =
    let piece = encode_utf8_all (printed_char c.in-Some.c) in
    let done = encode_utf8_all (flat_map printed_char c.loop-c.yielded) in
    c.in_ok-push_char.ensures ∙ ap (λ (t : List ℕ). t ++ piece) c.loop-c.invariant
    ∙ append_assoc c.args.line.now.items done piece
    ∙ ap (λ (t : List ℕ). c.args.line.now.items ++ t) (sym (one_more printed_char c.loop-c.yielded c.in-Some.c))

pub returns : goal.returns
returns g c =
    let end = YieldsList-end (YieldsList-from_chars c.args.name.now c.utf8.name cc) c.loop-c.yielded _
    c.loop-c.yielded_by _ _ c.in-None.is c.next.ensures.steps in
    c.loop-c.invariant
    ∙ ap (λ (cs : List ℕ). c.args.line.now.items ++ encode_utf8_all (flat_map printed_char cs))
    (sym (map-id c.loop-c.yielded) ∙ end.0)
