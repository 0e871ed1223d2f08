use Rattle.std.proofs.Common.{◌∙◌, ap}
use Rattle.sixel_ppm.specs.Ppm.{are_rgb}
use Rattle.sixel_screen.proofs.ScreenLemmas.{rgb_inks}
use Rattle.sixel_screen.proofs.screen.is_rgb_alone.Goals as goal

pub returns : goal.returns
returns c =
    c.are_rgb.ensures ∙ rgb_inks c.pixels.result.now c.pixels.ensures.fixed ∙ ap are_rgb c.pixels.ensures.pixels
