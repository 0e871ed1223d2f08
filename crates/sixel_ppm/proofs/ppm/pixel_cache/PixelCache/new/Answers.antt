use Rattle.std.proofs.Common.{arith, refl}
use Rattle.sixel_ppm.proofs.PpmEntryLemmas.{none_cached}
use Rattle.sixel_ppm.proofs.ppm.pixel_cache.PixelCache.new.Goals as goal

pub returns : goal.returns
returns c = λ maxval palette. none_cached _ maxval palette _ refl (omega arith)
