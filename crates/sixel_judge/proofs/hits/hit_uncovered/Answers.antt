use Rattle.sixel_judge.proofs.HitLemmas.{uncovered_none}
use Rattle.sixel_judge.proofs.hits.hit_uncovered.Goals as goal

pub returns-in-Some : goal.returns-in-Some
returns-in-Some g c = λ registers before s k.
    rw c.hit_at.ensures (c.uncovered_at.ensures registers before s (rw c.in-Some.is at k))

pub returns-in-None : goal.returns-in-None
returns-in-None g c = λ registers before s k.
    uncovered_none registers before c.args.event.now (rw c.in-None.is at k)
