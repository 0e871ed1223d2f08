use Rattle.sixel_model.specs.Geometry.{band, column}
use Rattle.sixel_judge.proofs.HitLemmas.{outside_hit}
use Rattle.sixel_judge.proofs.RunLemmas.{falls_first}
use Rattle.sixel_judge.proofs.hits.outside_at.Goals as goal

pub returns : goal.returns
returns g c = λ registers before s k.
    outside_hit registers _ before c.args.event.now k c.outside_pixel.result
    (falls_first before c.args.event.now k.box c.outside_pixel.result
    (rw (k.width_is, k.height_is)
    (rw (c.columns_of.ensures, c.bits_of.ensures.value, c.width.ensures, c.height.ensures) at
    c.outside_pixel.ensures (column 0 before) (band before) s.column_is s.band_is)))
