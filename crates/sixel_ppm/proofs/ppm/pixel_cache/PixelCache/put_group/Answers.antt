use Rattle.std.proofs.Common.{arith}
use Rattle.sixel_ppm.proofs.PpmPixelCacheLemmas.{group_repeated}
use Rattle.sixel_ppm.proofs.ppm.pixel_cache.PixelCache.put_group.Goals as goal

pub returns-then-is_repeated-clause-put : goal.returns-then-is_repeated-clause-put
returns-then-is_repeated-clause-put c = λ maxval palette first knows put.
    group_repeated maxval palette c.args.bytes.now first c.args.registers.now.items _ c.args.count c.args.end
    (omega (arith, c.if-count-gt0.true))
    (omega (arith, c.if-end-count-eq-GROUP.true, c.requires.ordered))
    c.requires.within (c.is_repeated.ensures c.if-is_repeated.true) c.repeat_last.ensures.items put
