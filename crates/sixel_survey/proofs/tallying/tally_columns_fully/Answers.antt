use Rattle.std.proofs.Common.{refl}
use Rattle.sixel_survey.proofs.tallying.tally_columns_fully.Goals as goal

pub returns : goal.returns
returns g c = λ seen n k t.
    c.tally_rule-5.ensures seen _ n k refl
    (c.tally_rule-4.ensures seen _ n k refl
    (c.tally_rule-3.ensures seen _ n k refl
    (c.tally_rule-2.ensures seen _ n k refl (c.tally_rule.ensures seen _ n k refl t))))
