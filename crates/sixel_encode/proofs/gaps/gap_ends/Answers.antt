use Rattle.std.proofs.Common.{arith}
use Rattle.std.proofs.lemmas.Nat.Bits.{bit_at_and, bit_at_ones}
use Rattle.sixel_encode.proofs.GapBitLemmas.{bit_turned, ends_are}
use Rattle.sixel_encode.proofs.MaskLemmas.{bit_eighth, bit_halved, bit_quartered}
use Rattle.sixel_encode.proofs.gaps.gap_ends.Goals as goal

pub returns-clause-ends : goal.returns-clause-ends
returns-clause-ends c =
    let blank = c.blanks_from-blank.result in
    ends_are c.args.at blank _ c.args.sixels.now c.requires.within c.blanks_from-blank.ensures.blank
    (λ j lt.
    let turned = bit_turned blank j c.blanks_from-blank.ensures.few lt in
    let ones = bit_at_ones 32 j lt in
    simp (bit_at_and, bit_halved, bit_quartered, bit_eighth) (
      λ set. (
        omega (arith, turned, ones),
        omega (arith, turned, ones),
        omega (arith, turned, ones),
        omega (arith, turned, ones),
        omega (arith, turned, ones),
      ),
      λ a b d e f. omega (arith, turned, ones),
    ))
