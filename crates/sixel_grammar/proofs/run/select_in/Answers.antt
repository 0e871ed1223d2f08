use Rattle.std.proofs.Common.{[], arith}
use Rattle.sixel_grammar.specs.Faults.{ColourFields}
use Rattle.sixel_grammar.proofs.RunLemmas.{colour_number, not_begun, select_led}
use Rattle.sixel_grammar.proofs.run.select_in.Goals as goal

pub returns-then-is_empty-clause-leads : goal.returns-then-is_empty-clause-leads
returns-then-is_empty-clause-leads c = not_begun c.args.piece.now

pub returns-clause-leads : goal.returns-clause-leads
returns-clause-leads c = λ place.
    c.digits_in-digits.ensures.reads place place [] (λ n. ColourFields [] n) colour_number
    (select_led place c.args.piece.now (omega (arith, c.if-is_empty.ensures)) c.if-piece-ne35.false)
