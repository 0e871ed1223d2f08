use Rattle.sixel_model.specs.Profiles.{count_of}
use Rattle.sixel_model.proofs.PictureLemmas.{at_most_256}
use Rattle.sixel_judge.proofs.HitLemmas.{notes_hit}
use Rattle.sixel_judge.proofs.hits.hit_of.Goals as goal

pub returns-in-Outside : goal.returns-in-Outside
returns-in-Outside g c = λ before s k.
    rw c.in-Outside.is (c.hit_outside.ensures (count_of c.args.profile) before s k)

pub returns-in-Uncovered : goal.returns-in-Uncovered
returns-in-Uncovered g c = λ before s k.
    rw c.in-Uncovered.is (c.hit_uncovered.ensures (count_of c.args.profile) before s k)

pub returns-in_default : goal.returns-in_default
returns-in_default g c = λ before s k.
    rw (c.hit_if.ensures, c.counts_by_notes.ensures)
    (notes_hit (count_of c.args.profile) c.args.notes.now before c.args.event.now c.args.rule
    (at_most_256 c.args.profile) s c.in_default.not-Outside
    c.in_default.not-Uncovered)
