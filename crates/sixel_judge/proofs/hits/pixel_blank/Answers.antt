use Rattle.std.proofs.Common.{sym}
use Rattle.sixel_judge.proofs.HitLemmas.{blank_first}
use Rattle.sixel_judge.proofs.hits.pixel_blank.Goals as goal

pub returns-in-Some : goal.returns-in-Some
returns-in-Some g c = λ before k late.
    rw (sym c.in-Some.ensures) at (blank_first (g.P.Cover.grid c.args.plane.now) before k late)

pub returns-in-None : goal.returns-in-None
returns-in-None g c = λ before k late.
    rw (sym c.in-None.ensures) at (blank_first (g.P.Cover.grid c.args.plane.now) before k late)
