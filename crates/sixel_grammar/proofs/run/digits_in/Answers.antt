use Rattle.std.proofs.Common.{arith}
use Rattle.sixel_grammar.proofs.RunLemmas.{digit_led}
use Rattle.sixel_grammar.proofs.run.digits_in.Goals as goal

pub loop-end-preserved : goal.loop-end-preserved
loop-end-preserved c = (
  omega (arith, c.loop-end.invariant.0),
  omega (arith, c.loop-end-test.true),
  λ place opened done form has leads.
      digit_led place opened c.args.piece.now c.loop-end.end c.loop-end.value c.in-Some.next done form has
      (c.loop-end.invariant.2 place opened done form has leads) c.loop-end-test.true c.in-Some.ensures.digit
      c.in-Some.ensures.value c.in-Some.ensures.small,
)
