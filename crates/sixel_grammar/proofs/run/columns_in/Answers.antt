use Rattle.std.proofs.Common.{arith}
use Rattle.sixel_grammar.proofs.RunLemmas.{columns_led, rest_is_data}
use Rattle.sixel_grammar.proofs.run.columns_in.Goals as goal

pub returns-clause-sixels : goal.returns-clause-sixels
returns-clause-sixels c = λ is k from under.
    rest_is_data c.args.piece.now c.args.from c.data_bytes_in-count.result c.data_bytes_in-count.ensures k from
    (omega (arith, under, c.if-count-eq0.false))

pub returns-clause-leads : goal.returns-clause-leads
returns-clause-leads c = λ place select leads.
    columns_led place c.args.piece.now c.args.from _ select leads
    (omega (arith, c.if-count-eq0.false)) (omega (arith, c.if-count-eq0.false, c.data_bytes_in-count.ensures.few))
    (λ k from under. rest_is_data c.args.piece.now c.args.from c.data_bytes_in-count.result c.data_bytes_in-count.ensures k
    from (omega (arith, under, c.if-count-eq0.false)))
