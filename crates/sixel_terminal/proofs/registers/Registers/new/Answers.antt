use Rattle.std.proofs.Common.{◌∙◌, map, ap}
use Rattle.sixel_model.specs.declared.colour.Parts.TheVariants.{Rgb}
use Rattle.sixel_terminal.specs.Screens.{colour_in_ink}
use Rattle.sixel_terminal.proofs.DrawnLemmas.{all_fixed, colours_of_fixed}
use Rattle.sixel_terminal.proofs.registers.Registers.new.Goals as goal

pub invariant_of-result : goal.invariant_of-result
invariant_of-result c = rw c.in_ok-pixels.ensures (all_fixed (λ c. c) c.args.colours.now (Rgb 0 0 0))

pub returns : goal.returns
returns c = ap (map colour_in_ink) c.in_ok-pixels.ensures ∙ colours_of_fixed c.args.colours.now
