use Rattle.std.proofs.Common.{◌∙◌, ◌+◌, ◌++◌, List, ℕ, ap, append_assoc, chars, drop, encode_utf8_all, flat_map, length}
use Rattle.std.proofs.Common.{map-id, sym}
use Rattle.std.proofs.lemmas.Iterator.{YieldsList-from_chars}
use Rattle.std.proofs.lemmas.Iterator.Consumers.{YieldsList-end, YieldsList-so_far, YieldsList-turn}
use Rattle.std.proofs.lemmas.Result.{err_from_is_err_and}
use Rattle.sixel_io.proofs.SinkLemmas.{writes-cut, writes-next, writes-then}
use Rattle.sixel_printing.specs.Printing.{printed_char}
use Rattle.sixel_printing.proofs.PrintingLemmas.{one_more, printed_around}
use Rattle.sixel_messages.proofs.names.put_printed.Goals as goal

pub returns-in_err-add_char : goal.returns-in_err-add_char
returns-in_err-add_char g c =
    let failed = err_from_is_err_and c.from_residual.result c.from_residual.ensures.1 in
    let all = YieldsList-from_chars c.args.name.now c.utf8.name cc in
    let xs = c.loop-c.yielded in
    let turn = YieldsList-turn all xs _ c.loop-c.yielded_by _ _ c.in-Some.c c.in-Some.is c.next.ensures.steps in
    let inv = c.loop-c.invariant in
    let whole = printed_around c.args.name.now xs c.in-Some.c
    (sym (map-id xs) ∙ YieldsList-so_far all xs _ c.loop-c.yielded_by) turn.0 turn.1 in
    let done = encode_utf8_all (flat_map printed_char xs) in
    let piece = encode_utf8_all (printed_char c.in-Some.c) in
    let rest = encode_utf8_all (flat_map printed_char (drop (length xs + 1) (chars c.args.name.now))) in
    rw failed.1
    (writes-cut (piece ++ rest) (whole ∙ append_assoc done piece rest)
    (writes-then _ (sym inv.2) inv.1 c.in_err-add_char.ensures.cut))

pub loop-c-preserved : goal.loop-c-preserved
loop-c-preserved g c =
    let inv = c.loop-c.invariant in
    let added = c.in_ok-add_char.ensures.added in
    let piece = encode_utf8_all (printed_char c.in-Some.c) in (
      inv.0 ++ added.0,
      writes-next inv.1 added.1,
      append_assoc inv.0 added.0 _ ∙ ap (λ (t : List ℕ). inv.0 ++ t) added.2
          ∙ sym (append_assoc inv.0 c.loop-c.text.items piece)
          ∙ ap (λ (t : List ℕ). t ++ piece) inv.2
          ∙ sym (one_more printed_char c.loop-c.yielded c.in-Some.c),
    )

pub returns : goal.returns
returns g c =
    let end = YieldsList-end (YieldsList-from_chars c.args.name.now c.utf8.name cc) c.loop-c.yielded _
    c.loop-c.yielded_by _ _ c.in-None.is c.next.ensures.steps in
    let inv = c.loop-c.invariant in
    let all = inv.2
    ∙ ap (λ (cs : List ℕ). encode_utf8_all (flat_map printed_char cs)) (sym (map-id c.loop-c.yielded) ∙ end.0) in
    writes-then c.put_all.result (sym all) inv.1 (rw c.as_slice.ensures.value at c.put_all.ensures)
