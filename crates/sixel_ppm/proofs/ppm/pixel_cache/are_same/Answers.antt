use Rattle.sixel_ppm.proofs.PpmPixelCacheLemmas.{lanes_same}
use Rattle.sixel_ppm.proofs.ppm.pixel_cache.are_same.Goals as goal

pub returns : goal.returns
returns c = lanes_same c.args.from c.args.at c.args.bytes.now c.requires.from c.requires.at
