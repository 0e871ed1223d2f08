use Rattle.std.proofs.Common.{◌++◌, ◌∷◌, [], subst, sym}
use Rattle.sixel_grammar.specs.declared.command.Event.{Event}
use Rattle.sixel_foot.specs.FootSeen.{HasGrown}
use Rattle.sixel_emulator.specs.Places.{IsPlaceAfter}
use Rattle.sixel_foot.proofs.foot.size.Growing.after.Goals as goal

pub returns-in-Step : goal.returns-in-Step
returns-in-Step c = λ before s.
    subst (λ (e : Event). HasGrown c.after_command.result (before ++ e ∷ [])) (sym c.in-Step.is)
    (c.after_command.ensures before s
    (subst (λ (e : Event). IsPlaceAfter 1 c.after-place.result (before ++ e ∷ [])) c.in-Step.is
    (c.after-place.ensures before s.place)))
