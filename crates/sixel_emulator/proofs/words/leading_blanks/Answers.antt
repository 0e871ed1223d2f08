use Rattle.std.proofs.Common.{arith, length}
use Rattle.sixel_emulator.proofs.PlainLemmas.{none_painting_below}
use Rattle.sixel_emulator.proofs.words.leading_blanks.Goals as goal

pub returns-then-byte-ne63-clause-blank : goal.returns-then-byte-ne63-clause-blank
returns-then-byte-ne63-clause-blank c = none_painting_below c.args.bytes.now c.loop-index.index c.loop-index.invariant

pub returns-clause-blank : goal.returns-clause-blank
returns-clause-blank c =
    none_painting_below c.args.bytes.now (length c.args.bytes.now)
    (λ k lt. c.loop-index.invariant k (omega (arith, lt, c.loop-index-test.false)))
