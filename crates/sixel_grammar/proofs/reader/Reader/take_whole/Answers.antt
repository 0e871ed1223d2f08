use Rattle.std.proofs.Common.{ap, arith, refl, sym}
use Rattle.sixel_grammar.specs.declared.command.Command.TheVariants.{CarriageReturn, NextLine}
use Rattle.sixel_grammar.specs.declared.command.Plain.TheVariants.{Nothing}
use Rattle.sixel_grammar.specs.Next.{begin}
use Rattle.sixel_grammar.specs.Plain.{plain_of}
use Rattle.sixel_grammar.proofs.DocumentWalkLemmas.{begin-filler}
use Rattle.sixel_grammar.proofs.StandLemmas.{alone, passed, sixel}
use Rattle.sixel_grammar.proofs.reader.Reader.take_whole.Goals as goal

pub returns-in-36-clause-accepted : goal.returns-in-36-clause-accepted
returns-in-36-clause-accepted c = λ events bytes s.
    let ready = c.args.self.now.ready (omega (arith, c.if-self-eq0.false)) in
    let taken = c.take_alone.ensures in
    alone c.args.self.now c.take_alone.new.self events bytes c.args.byte CarriageReturn (plain_of c.take_alone.result) s
    ready.1 (ap begin c.in-36.is) ready.2 taken.pending (ap plain_of taken.completed) taken.fault taken.left

pub returns-in-45-clause-accepted : goal.returns-in-45-clause-accepted
returns-in-45-clause-accepted c = λ events bytes s.
    let ready = c.args.self.now.ready (omega (arith, c.if-self-eq0.false)) in
    let taken = c.take_alone-in-45.ensures in
    alone c.args.self.now c.take_alone-in-45.new.self events bytes c.args.byte NextLine
    (plain_of c.take_alone-in-45.result) s
    ready.1 (ap begin c.in-45.is) ready.2 taken.pending (ap plain_of taken.completed) taken.fault taken.left

pub returns-in_default-clause-accepted : goal.returns-in_default-clause-accepted
returns-in_default-clause-accepted c = λ events bytes s.
    let ready = c.args.self.now.ready (omega (arith, c.if-self-eq0.false)) in
    let taken = c.take_alone-in_default.ensures in
    sixel c.args.self.now c.take_alone-in_default.new.self events bytes c.args.byte
    (plain_of c.take_alone-in_default.result) s
    ready.1 (sym c.if-is_data.ensures) ready.2 taken.pending (ap plain_of taken.completed) taken.fault taken.left

pub returns-in_default-2-clause-accepted : goal.returns-in_default-2-clause-accepted
returns-in_default-2-clause-accepted c = λ events bytes s.
    let ready = c.args.self.now.ready (omega (arith, c.if-self-eq0.false)) in
    let taken = c.pass.ensures in
    passed c.args.self.now c.pass.new.self events bytes c.args.byte (plain_of Nothing) s ready.1
    (begin-filler c.args.byte (sym c.if-is_filler.ensures)) ready.2 taken.pending refl taken.fault taken.left
