use Rattle.std.proofs.Common.{◌∙◌, ◌+◌, ℕ, ap, arith, sym}
use Rattle.sixel_omissions.proofs.BareLemmas.{at_most_one}
use Rattle.sixel_emulator_check.proofs.TrailerLemmas.{count_begins, count_step}
use Rattle.sixel_emulator_check.proofs.trailer.count_spaces.Goals as goal

pub loop-at-init : goal.loop-at-init
loop-at-init c = (sym (count_begins c.requires), omega arith)

pub loop-at-preserved : goal.loop-at-preserved
loop-at-preserved c =
    let i = c.loop-at.invariant in
    let one : ℕ = c.how_many-count.result in
    let few = at_most_one _ one c.how_many-count.ensures in (
      ap (λ (n : ℕ). n + one) i.0
          ∙ sym (count_step c.loop-at.at one c.requires c.loop-at.auto.at c.loop-at-test.true c.how_many-count.ensures),
      omega (arith, i.1, few),
    )
