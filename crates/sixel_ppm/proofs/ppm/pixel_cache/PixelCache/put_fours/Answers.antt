use Rattle.std.proofs.Common.{◌≡◌, ap, arith}
use Rattle.sixel_ppm.proofs.ppm.pixel_cache.PixelCache.put_fours.Goals as goal

pub returns-then-not-put_four-clause-put : goal.returns-then-not-put_four-clause-put
returns-then-not-put_four-clause-put c =
    let same : c.put_four.new.registers.items ≡ c.loop-next.registers.items = ap (λ r. r.items) (c.put_four.ensures.same
    c.if-not-put_four.true) in
    rw same c.loop-next.invariant.put

pub loop-next-preserved : goal.loop-next-preserved
loop-next-preserved c = record {
  from = omega (arith, c.loop-next.invariant.from);
  most = omega (arith, c.loop-next-test.true);
  len = omega (arith, c.put_four.ensures.len c.if-not-put_four.false, c.loop-next.invariant.len);
  capacity = omega (arith, c.put_four.ensures.capacity, c.loop-next.invariant.capacity);
  put = λ maxval palette first knows put.
      c.put_four.ensures.put c.if-not-put_four.false maxval palette first knows
      (c.loop-next.invariant.put maxval palette first knows put);
}
