use Rattle.std.proofs.Common.{◌+◌, ◌*◌, ◌∙◌, ap, sym}
use Rattle.sixel_io.proofs.SinkLemmas.{through-as}
use Rattle.sixel_ppm.specs.Ppm.{are_rgb}
use Rattle.sixel_sheet.specs.Sheets.{is_rgb_view, row_of}
use Rattle.sixel_screen.proofs.ScreenLemmas.{rgb_inks}
use Rattle.sixel_sheet.proofs.SheetLemmas.{row_samples, samples}
use Rattle.sixel_sheet.proofs.sheet.put_view.Goals as goal

pub returns-in-Screen : goal.returns-in-Screen
returns-in-Screen g c =
    let start = c.args.row * c.args.width in
    let rgb = rgb_inks c.pixels.result.now c.pixels.ensures.fixed ∙ ap are_rgb c.pixels.ensures.pixels
    ∙ ap is_rgb_view (sym c.in-Screen.is) ∙ c.requires.rgb in
    through-as
    (row_samples c.pixels.result.now c.in-Screen.screen.colours start (start + c.args.width) c.pixels.ensures.pixels rgb
    ∙ ap (λ view. samples (row_of c.args.width c.args.row view)) (sym c.in-Screen.is))
    c.put_pixels.ensures
