use Rattle.std.proofs.Common.{◌∙◌, sym}
use Rattle.sixel_show.proofs.StageLemmas.{declared-in}
use Rattle.sixel_show.proofs.show_on.sides_of.Goals as goal

pub returns-in-Some-clause-value : goal.returns-in-Some-clause-value
returns-in-Some-clause-value c = λ events is.
    c.sides_of_box.ensures.value ∙ sym (declared-in events _ (sym c.in-Some.is ∙ is))

pub returns-in-None-clause-value : goal.returns-in-None-clause-value
returns-in-None-clause-value c = λ events is. sym (declared-in events _ (sym c.in-None.is ∙ is))
