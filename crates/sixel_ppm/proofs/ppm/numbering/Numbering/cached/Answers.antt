use Rattle.std.proofs.Common.{refl}
use Rattle.std.proofs.lemmas.Option.{IfSome_then}
use Rattle.sixel_model.specs.declared.colour.Parts.TheVariants.{Rgb}
use Rattle.sixel_ppm.proofs.NumberingLemmas.{found}
use Rattle.sixel_ppm.proofs.PpmColourLemmas.{register_seen}
use Rattle.sixel_ppm.proofs.ppm.numbering.Numbering.cached.Goals as goal

pub returns : goal.returns
returns c = λ seen fills.
    let s = c.args.self.now in
    IfSome_then c.register_of.result (c.register_of.ensures 100 s.colours.palette s.knows)
    (λ register hit.
    let colour = Rgb c.args.red c.args.green c.args.blue in
    register_seen s.colours seen colour register
    (found s.colours.palette colour c.args.red c.args.green c.args.blue register refl hit) fills)
