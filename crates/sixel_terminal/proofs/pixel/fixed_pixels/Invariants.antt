use Rattle.std.proofs.Common.{◌≡◌, map, take}
use Rattle.sixel_terminal.specs.declared.pixel.Ink.TheVariants.{Fixed}
use Rattle.sixel_terminal.proofs.pixel.fixed_pixels.Given as goal

abbrev pub invariant-loop-colour : goal.invariant-loop-colour
invariant-loop-colour l = l.pixels.items ≡ map (λ c. Fixed c) (take l.colour-index l.colours)
