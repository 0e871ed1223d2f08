use Rattle.std.proofs.Common.{Some, refl}
use Rattle.sixel_model.specs.declared.rule.Rule.TheVariants.{Outside, Uncovered}
use Rattle.sixel_judge.proofs.ViolationLemmas.{next_counts, next_passes}
use Rattle.sixel_judge.proofs.violation.violation_of_pixels.Goals as goal

pub returns-in-Some : goal.returns-in-Some
returns-in-Some g c = λ registers before s k none.
    next_counts registers 10 before c.args.event.now Outside (record { pixel = Some c.in-Some.pixel }) refl none
    (c.in-Some.ensures registers before s k)

pub returns-in-Some-uncovered_at : goal.returns-in-Some-uncovered_at
returns-in-Some-uncovered_at g c = λ registers before s k none.
    next_counts registers 11 before c.args.event.now Uncovered (record { pixel = Some c.in-Some-uncovered_at.pixel })
    refl (next_passes registers 10 before c.args.event.now Outside refl none (c.in-None.ensures registers before s k))
    (c.in-Some-uncovered_at.ensures registers before s k)

pub returns-in-None-uncovered_at : goal.returns-in-None-uncovered_at
returns-in-None-uncovered_at g c = λ registers before s k none.
    c.violation_of_eight_bit.ensures registers before
    (next_passes registers 11 before c.args.event.now Uncovered refl
    (next_passes registers 10 before c.args.event.now Outside refl none (c.in-None.ensures registers before s k))
    (c.in-None-uncovered_at.ensures registers before s k))
