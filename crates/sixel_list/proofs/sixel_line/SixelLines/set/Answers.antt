use Rattle.std.proofs.Common.{◌∙◌, ◌++◌, ◌+◌, ◌-◌, List, ℕ, ap, arith, get_or, sym, take}
use Rattle.std.proofs.lemmas.List.{append-nil}
use Rattle.sixel_grammar.specs.declared.command.Command.TheVariants.{Sixel}
use Rattle.sixel_grammar.specs.declared.command.Event.TheVariants.{Step}
use Rattle.sixel_grammar.specs.declared.command.Placed.{Placed}
use Rattle.sixel_grammar.specs.Stretches.{sixels_from}
use Rattle.sixel_report.specs.Texts.{event_line, list_text}
use Rattle.sixel_list.proofs.ListingLemmas.{sixels-then}
use Rattle.sixel_list.proofs.sixel_line.SixelLines.set.Goals as goal

pub loop-index-preserved : goal.loop-index-preserved
loop-index-preserved c =
    let bytes = c.args.bytes.now in
    let i = c.loop-index.index in
    let place = c.args.place in
    let sixel : Placed = record { place = place + i; event = Step (Sixel (get_or bytes i 0 - 63)) } in
    record {
      lines = c.put-end.ensures.lines ∙ ap (λ (t : List ℕ). t ++ event_line sixel) c.loop-index.invariant.lines
          ∙ ap (λ (t : List ℕ). list_text (sixels_from place (take i bytes)) ++ t) (sym (append-nil (event_line sixel)))
          ∙ sym (sixels-then place i bytes c.loop-index-test.true);
      few = omega (arith, c.put-end.ensures.few, c.loop-index.invariant.few);
    }
