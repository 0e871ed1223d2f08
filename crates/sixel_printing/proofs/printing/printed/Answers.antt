use Rattle.std.proofs.Common.{◌∙◌, ◌++◌, List, ℕ, ap, encode_utf8_all, flat_map, map-id, sym}
use Rattle.std.proofs.lemmas.Iterator.{YieldsList-from_chars}
use Rattle.std.proofs.lemmas.Iterator.Consumers.{YieldsList-end}
use Rattle.sixel_printing.specs.Printing.{printed_char}
use Rattle.sixel_printing.proofs.PrintingLemmas.{one_more}
use Rattle.sixel_printing.proofs.printing.printed.Goals as goal

pub loop-c-preserved : goal.loop-c-preserved
loop-c-preserved c =
    c.in_ok-push_printed.ensures ∙ ap (λ (t : List ℕ). t ++ encode_utf8_all (printed_char c.in-Some.c)) c.loop-c.invariant
    ∙ sym (one_more printed_char c.loop-c.yielded c.in-Some.c)

pub returns : goal.returns
returns c =
    let end = YieldsList-end (YieldsList-from_chars c.args.text.now c.utf8.text cc) c.loop-c.yielded _
    c.loop-c.yielded_by _ _ c.in-None.is c.next.ensures.steps in
    c.loop-c.invariant
    ∙ ap (λ (cs : List ℕ). encode_utf8_all (flat_map printed_char cs)) (sym (map-id c.loop-c.yielded) ∙ end.0)
