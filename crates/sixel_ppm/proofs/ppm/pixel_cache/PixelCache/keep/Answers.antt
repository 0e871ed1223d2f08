use Rattle.std.proofs.Common.{refl, arith}
use Rattle.sixel_ppm.proofs.PpmEntryLemmas.{keeps}
use Rattle.sixel_ppm.proofs.ppm.pixel_cache.PixelCache.keep.Goals as goal

pub returns : goal.returns
returns c = λ maxval palette knows hit.
    keeps c.move_entry.new.self _ maxval palette c.place_of-place.result c.key_of-key.result c.args.red c.args.green
    c.args.blue c.args.register refl c.place_of-place.ensures.value (omega (arith, c.ranges.red.fits))
    (omega (arith, c.ranges.green.fits)) (omega (arith, c.ranges.blue.fits)) (omega (arith, c.ranges.register.fits))
    c.key_of-key.ensures.value (c.move_entry.ensures maxval palette knows) hit
