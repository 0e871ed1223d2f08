use Rattle.std.proofs.Common.{arith}
use Rattle.sixel_ppm.proofs.ppm.pixel_cache.PixelCache.put_all.Goals as goal

pub returns-then-next-end-clause-put : goal.returns-then-next-end-clause-put
returns-then-next-end-clause-put c = λ maxval palette knows.
    c.put_group-next.ensures.put maxval palette c.args.registers.now.items knows
    (c.loop-count.invariant.put maxval palette knows)

pub loop-count-preserved : goal.loop-count-preserved
loop-count-preserved c = record {
  within = omega (arith, c.put_group-next.ensures.most, c.min-end.ensures);
  len = omega (arith, c.put_group-next.ensures.len, c.loop-count.invariant.len);
  capacity = omega (arith, c.put_group-next.ensures.capacity, c.loop-count.invariant.capacity);
  put = λ maxval palette knows.
      c.put_group-next.ensures.put maxval palette c.args.registers.now.items knows
      (c.loop-count.invariant.put maxval palette knows);
}
