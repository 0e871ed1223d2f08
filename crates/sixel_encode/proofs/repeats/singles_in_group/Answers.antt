use Rattle.std.proofs.Common.{arith}
use Rattle.std.proofs.lemmas.Nat.{and_le_l}
use Rattle.std.proofs.lemmas.Nat.Bits.{bit_at_and}
use Rattle.sixel_encode.proofs.MaskLemmas.{bit_halved, bit_quartered}
use Rattle.sixel_encode.proofs.RepeatLemmas.{begun_first, begun_none}
use Rattle.sixel_encode.proofs.repeats.singles_in_group.Goals as goal

pub returns-then-begun-eq0 : goal.returns-then-begun-eq0
returns-then-begun-eq0 c = record {
  most = omega arith;
  singles = begun_none c.args.at c.equal_pairs-pairs.result _ c.args.sixels.now c.equal_pairs-pairs.ensures.pairs
      c.if-begun-eq0.true (λ j. simp (bit_at_and, bit_halved, bit_quartered) (omega arith));
  repeat = λ less. absurd (omega arith);
}

pub returns-else-begun-eq0 : goal.returns-else-begun-eq0
returns-else-begun-eq0 c =
    let first = begun_first c.args.at c.equal_pairs-pairs.result _ c.args.sixels.now c.equal_pairs-pairs.ensures.pairs
    c.equal_pairs-pairs.ensures.few c.if-begun-eq0.false (omega (arith, and_le_l, c.equal_pairs-pairs.ensures.few))
    (λ j. simp (bit_at_and, bit_halved, bit_quartered) (omega arith)) in
    record { most = omega (arith, first.0); singles = first.1; repeat = λ less. first.2 }
