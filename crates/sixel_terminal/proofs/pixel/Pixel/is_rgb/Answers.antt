use Rattle.std.proofs.Common.{◌∙◌, ap}
use Rattle.sixel_terminal.specs.Pixels.{is_rgb_ink}
use Rattle.sixel_terminal.proofs.PixelCodeLemmas.{small_is_rgb}
use Rattle.sixel_terminal.proofs.pixel.Pixel.is_rgb.Goals as goal

pub returns : goal.returns
returns c = small_is_rgb _ c.self.inside.code c.self.invariant.ink c.self.invariant.same ∙ ap is_rgb_ink c.self.view_is
