use Rattle.std.proofs.Common.{◌≡◌, ◌++◌, drop, map, take}
use Rattle.sixel_terminal.specs.declared.pixel.Ink.TheVariants.{Fixed}
use Rattle.sixel_terminal.proofs.terminal.drawing.lay_colours.Given as goal

abbrev pub invariant-loop-index : goal.invariant-loop-index
invariant-loop-index l = l.pixels ≡ map (λ c. Fixed c) (take l.index l.colours) ++ drop l.index l.initial.pixels
