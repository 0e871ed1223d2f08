use Rattle.std.proofs.Common.{◌≡◌, map, take}
use Rattle.sixel_terminal.specs.Screens.{colour_in_ink}
use Rattle.sixel_terminal.proofs.screen.colours_of.Given as goal

abbrev pub invariant-loop-pixel : goal.invariant-loop-pixel
invariant-loop-pixel l = l.colours.items ≡ map colour_in_ink (take l.pixel-index l.pixels)
