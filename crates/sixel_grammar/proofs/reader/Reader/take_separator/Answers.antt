use Rattle.std.proofs.Common.{refl}
use Rattle.sixel_grammar.specs.Plain.{plain_of}
use Rattle.sixel_grammar.specs.declared.command.Plain.TheVariants.{Nothing}
use Rattle.sixel_grammar.proofs.StandLemmas.{inner}
use Rattle.sixel_grammar.proofs.reader.Reader.take_separator.Goals as goal

pub returns-then-try_take_separator-clause-accepted : goal.returns-then-try_take_separator-clause-accepted
returns-then-try_take_separator-clause-accepted c = λ events bytes s.
    let taken = c.if-try_take_separator.ensures in
    inner c.args.self.now _ events bytes 59 (plain_of Nothing) s c.if-self-gt0.true (taken.taken refl)
    (taken.unfinished refl) refl refl refl refl
