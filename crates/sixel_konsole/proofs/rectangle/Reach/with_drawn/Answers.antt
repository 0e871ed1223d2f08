use Rattle.std.proofs.Common.{[], ◌∷◌, ◌++◌, subst, append_assoc}
use Rattle.sixel_grammar.specs.declared.command.Event.TheVariants.{Step}
use Rattle.sixel_konsole.specs.KonsoleMeasured.{IsReach}
use Rattle.sixel_konsole.proofs.rectangle.Reach.with_drawn.Goals as goal

pub returns-in-DrawsTwo : goal.returns-in-DrawsTwo
returns-in-DrawsTwo c = λ drawing s.
    let first = Step c.in-DrawsTwo.first ∷ [] in
    let second = Step c.in-DrawsTwo.second ∷ [] in
    let both =
    c.with-in-DrawsTwo-2.ensures (drawing ++ first) (c.with-in-DrawsTwo.ensures drawing s) in
    rw c.in-DrawsTwo.is
    (subst (IsReach c.with-in-DrawsTwo-2.result) (append_assoc drawing first second) both)
