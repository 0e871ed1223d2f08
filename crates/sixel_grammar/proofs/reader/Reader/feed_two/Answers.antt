use Rattle.std.proofs.Common.{refl, arith}
use Rattle.sixel_grammar.specs.declared.command.Event.TheVariants.{Step}
use Rattle.sixel_grammar.proofs.RunLemmas.{two}
use Rattle.sixel_grammar.proofs.reader.Reader.feed_two.Goals as goal

pub returns-clause-accepted : goal.returns-clause-accepted
returns-clause-accepted c = λ events bytes s.
    two c.args.self.now _ events bytes c.args.byte _ _ (Step c.in_ok-ending.ending.ended) (Step c.in_ok-ending.ending.own)
    s (omega (arith, c.if-self-eq0.false)) c.in_ok-ending.ensures.ended (c.in_ok-ending.ensures.after refl)
    (omega arith) refl refl refl
