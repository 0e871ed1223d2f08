use Rattle.std.proofs.Common.{◌++◌, ◌∷◌, [], subst, sym}
use Rattle.sixel_foot.specs.declared.foot.size.Growing.{Growing}
use Rattle.sixel_foot.specs.FootSeen.{HasGrown}
use Rattle.sixel_foot.proofs.FootLemmas.{grown_wide}
use Rattle.sixel_foot.proofs.foot.size.Growing.widened.Goals as goal

pub returns : goal.returns
returns c = λ before e is s place.
    subst (λ (g : Growing). HasGrown g (before ++ e ∷ [])) (sym c.widened_to.ensures)
    (grown_wide c.args.place before e is s place)
