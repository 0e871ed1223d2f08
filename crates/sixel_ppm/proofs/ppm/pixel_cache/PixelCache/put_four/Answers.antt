use Rattle.std.proofs.Common.{arith}
use Rattle.sixel_ppm.proofs.PpmPixelCacheLemmas.{hits_put_four}
use Rattle.sixel_ppm.proofs.ppm.pixel_cache.PixelCache.put_four.Goals as goal

pub returns-clause-put : goal.returns-clause-put
returns-clause-put c = λ all maxval palette first knows put.
    let fit = c.are_registers.ensures c.if-not-are_registers.false in
    hits_put_four maxval palette c.args.bytes.now c.args.count _ _ _ _ first c.args.registers.now.items
    c.push_reserved.new.self.items c.push_reserved-2.new.self.items c.push_reserved-3.new.self.items
    c.push_reserved-4.new.self.items (omega (arith, c.requires.within))
    (c.found_at-first.ensures maxval palette knows fit.0) (c.found_at-second.ensures maxval palette knows fit.1)
    (c.found_at-third.ensures maxval palette knows fit.2) (c.found_at-fourth.ensures maxval palette knows fit.3)
    c.push_reserved.ensures.items c.push_reserved-2.ensures.items c.push_reserved-3.ensures.items
    c.push_reserved-4.ensures.items put
