use Rattle.std.proofs.Common.{◌∙◌, sym}
use Rattle.sixel_judge.proofs.HitLemmas.{uncovered_early, uncovered_hit}
use Rattle.sixel_judge.proofs.hits.uncovered_at_finish.Goals as goal

pub returns-then-notes : goal.returns-then-notes
returns-then-notes g c = λ registers before e ends s k.
    uncovered_early registers before e (sym s.early_is ∙ c.if-notes.true)

pub returns-else-notes : goal.returns-else-notes
returns-else-notes g c = λ registers before e ends s k.
    let late = sym s.early_is ∙ c.if-notes.false in
    uncovered_hit registers e k c.pixel_blank.result ends late (c.pixel_blank.ensures before k late)
