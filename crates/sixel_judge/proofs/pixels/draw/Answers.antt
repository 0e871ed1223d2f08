use Rattle.sixel_judge.proofs.pixels.draw.Goals as goal

pub returns-in_ok-plane-in-None-clause-ok : goal.returns-in_ok-plane-in-None-clause-ok
returns-in_ok-plane-in-None-clause-ok g c = λ registers before u none.
    c.in_ok-plane-in-None.ensures.ok registers before (rw c.in-None.is at u.grid_is) none
