use Rattle.std.proofs.Common.{◌≡◌, ◌∙◌, List, ap}
use Rattle.std.specs.List.{flat_map}
use Rattle.sixel_model.specs.declared.colour.Parts.{Parts}
use Rattle.sixel_ppm.specs.Ppm.{are_rgb, samples_of}
use Rattle.sixel_ppm.specs.PpmTables.{samples_from}
use Rattle.sixel_terminal.specs.Pixels.{bytes_of}
use Rattle.sixel_screen.proofs.ScreenLemmas.{inks_samples, rgb_inks}
use Rattle.sixel_screen.proofs.screen.write_rgb_png.Goals as goal

pub returns : goal.returns
returns g c =
    let rgb = rgb_inks c.pixels-pixels.result.now c.pixels-pixels.ensures.fixed
    ∙ ap are_rgb c.pixels-pixels.ensures.pixels ∙ c.requires.rgb in
    let samples : samples_from bytes_of c.pixels-pixels.result.now ≡ flat_map samples_of c.args.screen.now.colours =
    inks_samples c.pixels-pixels.result.now rgb
    ∙ ap (λ (cs : List Parts). flat_map samples_of cs) c.pixels-pixels.ensures.pixels in
    rw (c.width.ensures, c.height.ensures, samples) at c.write_png_pixels.ensures
