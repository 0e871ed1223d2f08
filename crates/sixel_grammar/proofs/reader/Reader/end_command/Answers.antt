use Rattle.std.proofs.Common.{refl, arith}
use Rattle.sixel_grammar.specs.declared.command.Event.TheVariants.{Step}
use Rattle.sixel_grammar.proofs.StandLemmas.{ended}
use Rattle.sixel_grammar.proofs.reader.Reader.end_command.Goals as goal

pub returns-clause-accepted : goal.returns-clause-accepted
returns-clause-accepted c = λ events bytes s.
    ended c.args.self.now _ events bytes c.args.byte (Step c.in_ok-command.command) s
    (omega (arith, c.if-self-eq0.false)) c.in_ok-command.ensures.ended refl refl refl
