use Rattle.sixel_mend.proofs.MendLemmas.{sized_alone, sized_over}
use Rattle.sixel_mend.proofs.extent.Extent.size.Goals as goal

pub returns-in-None : goal.returns-in-None
returns-in-None c = λ m events s. sized_alone m s c.in-None.is

pub returns-in-Some : goal.returns-in-Some
returns-in-Some c = λ m events s. rw (c.greater.ensures.value, c.greater-in-Some.ensures.value)
    (sized_over m c.in-Some.sides s c.in-Some.is c.greater.ensures.small c.greater-in-Some.ensures.small)
