use Rattle.std.proofs.Common.{◌∙◌, sym}
use Rattle.std.proofs.lemmas.Option.{IfSome_then}
use Rattle.sixel_ppm.proofs.NumberingLemmas.{found}
use Rattle.sixel_ppm.proofs.ppm.numbering.cached.Goals as goal

pub returns-in-Rgb : goal.returns-in-Rgb
returns-in-Rgb c = λ palette knows.
    IfSome_then c.register_of.result (c.register_of.ensures 100 palette knows)
    (λ register hit.
    found palette c.args.colour c.in-Rgb.red c.in-Rgb.green c.in-Rgb.blue register
    (sym c.parts.ensures.same ∙ c.in-Rgb.is) hit)
