use Rattle.std.proofs.Common.{None, refl, sym, ◌∙◌}
use Rattle.sixel_model.specs.declared.rule.Rule.TheVariants.{EightBit}
use Rattle.sixel_judge.proofs.HitLemmas.{eight_bit_hit}
use Rattle.sixel_judge.proofs.ViolationLemmas.{next_counts, next_passes}
use Rattle.sixel_judge.proofs.violation.violation_of_eight_bit.Goals as goal

pub returns-then-is_eight_bit : goal.returns-then-is_eight_bit
returns-then-is_eight_bit c = λ registers before none.
    next_counts registers 12 before c.args.event.now EightBit (record { pixel = None }) refl none
    (eight_bit_hit registers before c.args.event.now _ (sym c.is_eight_bit.ensures ∙ c.if-is_eight_bit.true))

pub returns-else-is_eight_bit : goal.returns-else-is_eight_bit
returns-else-is_eight_bit c = λ registers before none.
    next_passes registers 12 before c.args.event.now EightBit refl none
    (eight_bit_hit registers before c.args.event.now _ (sym c.is_eight_bit.ensures ∙ c.if-is_eight_bit.false))
