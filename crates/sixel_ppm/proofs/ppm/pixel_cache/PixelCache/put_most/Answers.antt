use Rattle.sixel_ppm.proofs.ppm.pixel_cache.PixelCache.put_most.Goals as goal

pub returns-clause-put : goal.returns-clause-put
returns-clause-put c = λ maxval palette first knows put.
    c.put_each-2.ensures.put maxval palette first knows (c.put_fours-next.ensures.put maxval palette first knows put)
