use Rattle.std.proofs.Common.{arith}
use Rattle.std.proofs.lemmas.Bool.{ltb-true}
use Rattle.sixel_ppm.proofs.PpmEntryLemmas.{four_below}
use Rattle.sixel_ppm.proofs.ppm.pixel_cache.are_registers.Goals as goal

pub returns : goal.returns
returns c = λ lt.
    four_below c.args.first c.args.second c.args.third c.args.fourth _ (ltb-true _ _ lt) (omega arith)
