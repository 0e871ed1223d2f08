use Rattle.std.proofs.Common.{◌≡◌, take}
use Rattle.std.specs.List.{list_all}
use Rattle.sixel_terminal.specs.Pixels.{is_rgb_ink}
use Rattle.sixel_screen.proofs.screen.are_rgb.Given as goal

abbrev pub invariant-loop-pixel : goal.invariant-loop-pixel
invariant-loop-pixel l = l.all ≡ list_all is_rgb_ink (take l.pixel-index l.pixels)
