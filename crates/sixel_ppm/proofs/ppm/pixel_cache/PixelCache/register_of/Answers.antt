use Rattle.std.proofs.Common.{arith}
use Rattle.sixel_ppm.proofs.PpmEntryLemmas.{found_hit, second_hit}
use Rattle.sixel_ppm.proofs.ppm.pixel_cache.PixelCache.register_of.Goals as goal

pub returns-then-found-lt256 : goal.returns-then-found-lt256
returns-then-found-lt256 c = λ maxval palette knows.
    found_hit c.args.self.now maxval palette c.args.red c.args.green c.args.blue c.key_of-key.result c.found-found.result
    (omega (arith, c.ranges.red.fits)) (omega (arith, c.ranges.green.fits)) (omega (arith, c.ranges.blue.fits))
    c.if-found-lt256.true c.key_of-key.ensures.value (c.found-found.ensures c.if-found-lt256.true) knows

pub returns-then-second-lt256 : goal.returns-then-second-lt256
returns-then-second-lt256 c = λ maxval palette knows.
    second_hit c.args.self.now maxval palette c.args.red c.args.green c.args.blue c.key_of-key.result
    c.found_second-second.result (omega (arith, c.ranges.red.fits)) (omega (arith, c.ranges.green.fits))
    (omega (arith, c.ranges.blue.fits)) c.if-second-lt256.true c.key_of-key.ensures.value
    (c.found_second-second.ensures c.if-second-lt256.true) knows
