use Rattle.std.proofs.Common.{◌≡◌, ◌∙◌, ◌++◌, ◌∷◌, ℕ, [], List, ap, ap₂, arith, map, sym}
use Rattle.std.specs.List.{range_with_len}
use Rattle.sixel_model.specs.declared.colour.Parts.{Parts}
use Rattle.sixel_model.specs.Profiles.{count_of}
use Rattle.sixel_show.specs.Screens.{grey, percent_at}
use Rattle.sixel_show.proofs.ScreenLemmas.{greys_more}
use Rattle.sixel_show.proofs.show.greys.Goals as goal

pub loop-register-preserved : goal.loop-register-preserved
loop-register-preserved c =
    c.in_ok-push.ensures.items
    ∙ ap₂ (λ (colours : List Parts) (colour : Parts). colours ++ colour ∷ []) c.loop-register.invariant
    (c.grey.ensures ∙ ap grey c.percent_at.ensures.value)
    ∙ sym (greys_more c.args.profile c.loop-register.register)

pub returns : goal.returns
returns c =
    let done : c.loop-register.register ≡ count_of c.args.profile =
    omega (arith, c.loop-register-test.false, c.count-register-end.ensures.value) in
    c.loop-register.invariant
    ∙ ap (λ (n : ℕ). map (λ register. grey (percent_at c.args.profile register)) (range_with_len 0 n)) done
