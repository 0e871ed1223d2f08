use Rattle.std.proofs.Common.{◌≡◌, ◌∙◌, ◌++◌, ◌∷◌, ℕ, [], List, ap, ap₂, arith, map, sym}
use Rattle.std.specs.List.{range_with_len}
use Rattle.sixel_model.specs.declared.colour.Parts.{Parts}
use Rattle.sixel_mend.specs.Screens.{starting_colour, starting_colours}
use Rattle.sixel_mend.proofs.TerminalLemmas.{starting_more}
use Rattle.sixel_mend.proofs.terminal.starting_colours.Goals as goal

pub loop-register-preserved : goal.loop-register-preserved
loop-register-preserved c =
    c.in_ok-push.ensures.items
    ∙ ap₂ (λ (colours : List Parts) (colour : Parts). colours ++ colour ∷ []) c.loop-register.invariant
    c.vt340_colour.ensures
    ∙ sym (starting_more c.loop-register.register)

pub returns : goal.returns
unfolding starting_colours
returns c =
    let done : c.loop-register.register ≡ 256 = omega (arith, c.loop-register-test.false) in
    c.loop-register.invariant ∙ ap (λ (n : ℕ). map starting_colour (range_with_len 0 n)) done
