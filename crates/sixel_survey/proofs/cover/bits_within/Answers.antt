use Rattle.std.proofs.Common.{◌≤◌, ◌<◌, arith}
use Rattle.std.proofs.lemmas.Nat.{and_le_r}
use Rattle.sixel_survey.proofs.CoverLemmas.{few_lowest, low_bit, no_high_bit}
use Rattle.sixel_survey.proofs.cover.bits_within.Goals as goal

pub returns-clause-within : goal.returns-clause-within
returns-clause-within c =
    let six : c.min-rows.result ≤ 6 = omega (arith, c.min-rows.ensures) in
    omega (
      arith,
      and_le_r c.args.bits c.lowest_bits.result,
      c.lowest_bits.ensures,
      few_lowest c.min-rows.result six,
    )

pub returns-clause-kept : goal.returns-clause-kept
returns-clause-kept c = λ k six above.
    let lt : k < c.min-rows.result = omega (arith, c.min-rows.ensures, c.saturating_sub.ensures, six, above) in
    rw c.lowest_bits.ensures (low_bit c.args.bits c.min-rows.result k lt)

pub returns-clause-left_out : goal.returns-clause-left_out
returns-clause-left_out c = λ k six below.
    let le : c.min-rows.result ≤ k = omega (arith, c.min-rows.ensures, c.saturating_sub.ensures, below) in
    rw c.lowest_bits.ensures (no_high_bit c.args.bits c.min-rows.result k le)
