use Rattle.std.proofs.Common.{◌≡◌, arith}
use Rattle.sixel_ppm.proofs.PpmPixelCacheLemmas.{hits_put}
use Rattle.sixel_ppm.proofs.ppm.pixel_cache.PixelCache.put_each.Goals as goal

pub loop-next-preserved : goal.loop-next-preserved
loop-next-preserved c = record {
  len = omega (arith, c.push_reserved.ensures.len, c.loop-next.invariant.len);
  capacity = cc (c.push_reserved.ensures.capacity, c.loop-next.invariant.capacity);
  put = λ maxval palette first knows put.
      hits_put maxval palette c.args.bytes.now c.loop-next.next c.in-Some.register first
      c.loop-next.registers.items c.push_reserved.new.self.items
      (omega (arith, c.loop-next-test.true, c.requires.within)) (c.in-Some.ensures maxval palette knows)
      c.push_reserved.ensures.items (c.loop-next.invariant.put maxval palette first knows put);
}

pub returns-clause-put : goal.returns-clause-put
returns-clause-put c = λ maxval palette first knows put.
    let all : c.loop-next.next ≡ c.args.end = omega (
      arith,
      c.loop-next-test.false,
      c.loop-next.auto.next-end c.requires.ordered,
    ) in
    rw all at c.loop-next.invariant.put maxval palette first knows put
