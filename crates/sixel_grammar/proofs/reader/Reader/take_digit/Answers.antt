use Rattle.std.proofs.Common.{refl}
use Rattle.sixel_grammar.specs.Plain.{plain_of}
use Rattle.sixel_grammar.specs.declared.command.Plain.TheVariants.{Nothing}
use Rattle.sixel_grammar.proofs.StandLemmas.{inner}
use Rattle.sixel_grammar.proofs.reader.Reader.take_digit.Goals as goal

pub returns-then-try_take_digit-clause-accepted : goal.returns-then-try_take_digit-clause-accepted
returns-then-try_take_digit-clause-accepted c = λ events bytes s.
    let taken = c.if-try_take_digit.ensures in
    inner c.args.self.now _ events bytes c.args.byte (plain_of Nothing) s c.if-self-gt0.true (taken.taken refl)
    (taken.unfinished refl) refl refl refl refl
