use Rattle.std.proofs.Common.{arith}
use Rattle.sixel_list.proofs.SixelLineLemmas.{tails-more}
use Rattle.sixel_list.proofs.sixel_line.Tails.new.Goals as goal

pub loop-bits-preserved : goal.loop-bits-preserved
loop-bits-preserved c = record {
  long = c.put_tail.ensures.long;
  tails = tails-more c.loop-bits.text c.put_tail.new.text c.loop-bits.bits c.loop-bits-test.true c.put_tail.ensures.before
      c.put_tail.ensures.tail c.loop-bits.invariant.tails;
}

pub invariant_of-result : goal.invariant_of-result
invariant_of-result c = record {
  tails = λ bits few. c.loop-bits.invariant.tails bits (omega (arith, few));
}
