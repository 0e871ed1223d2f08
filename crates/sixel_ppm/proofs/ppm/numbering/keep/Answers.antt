use Rattle.std.proofs.Common.{◌∙◌, sym}
use Rattle.sixel_ppm.proofs.NumberingLemmas.{hit_of}
use Rattle.sixel_ppm.proofs.ppm.numbering.keep.Goals as goal

pub returns-in-Rgb : goal.returns-in-Rgb
returns-in-Rgb c = λ palette knows first.
    c.keep.ensures 100 palette knows
    (hit_of palette c.args.colour c.in-Rgb.red c.in-Rgb.green c.in-Rgb.blue c.args.register
    (sym c.parts.ensures.same ∙ c.in-Rgb.is) c.parts.ensures.in_range first)
