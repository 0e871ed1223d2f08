use Rattle.std.proofs.Common.{◌*◌, ◌+◌, arith}
use Rattle.sixel_ppm.proofs.PpmEntryLemmas.{found_hit}
use Rattle.sixel_ppm.proofs.ppm.pixel_cache.PixelCache.found_at.Goals as goal

pub returns : goal.returns
returns c = λ maxval palette knows lt.
    let at = 3 * c.args.index in
    found_hit c.args.self.now maxval palette _ _ _ c.key_at.result c.found.result
    (omega (arith, (c.type_inv.bytes at).fits)) (omega (arith, (c.type_inv.bytes (at + 1)).fits))
    (omega (arith, (c.type_inv.bytes (at + 2)).fits)) lt c.key_at.ensures.value (c.found.ensures lt) knows
