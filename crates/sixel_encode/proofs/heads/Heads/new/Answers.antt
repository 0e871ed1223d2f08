use Rattle.std.proofs.Common.{arith}
use Rattle.sixel_encode.proofs.heads.Heads.new.Goals as goal

pub invariant_of-result : goal.invariant_of-result
invariant_of-result c = record {
  heads = λ count few. c.loop-count.invariant.heads count (omega (arith, few));
}
