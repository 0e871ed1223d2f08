use Rattle.std.proofs.Common.{refl, ap}
use Rattle.sixel_grammar.specs.Plain.{plain_of}
use Rattle.sixel_grammar.proofs.StandLemmas.{sixel}
use Rattle.sixel_grammar.proofs.reader.Reader.feed_quickly.Goals as goal

pub returns-then-is_sixel-clause-accepted : goal.returns-then-is_sixel-clause-accepted
returns-then-is_sixel-clause-accepted c = λ events bytes s.
    let is = c.if-is_sixel.ensures.0 refl in
    sixel c.args.self.now c.take_alone.new.self events bytes c.args.byte (plain_of c.take_alone.result) s is.1 is.0 is.2
    c.take_alone.ensures.pending
    (ap plain_of c.take_alone.ensures.completed) c.take_alone.ensures.fault c.take_alone.ensures.left
