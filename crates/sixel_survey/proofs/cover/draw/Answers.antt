use Rattle.std.proofs.Common.{◌≡◌, ◌∙◌, false, sym}
use Rattle.sixel_model.specs.Geometry.{band, column}
use Rattle.sixel_judge.specs.Counting.{has_box}
use Rattle.sixel_survey.proofs.CoverLemmas.{cover_run, no_raster_stays}
use Rattle.sixel_survey.proofs.cover.draw.Goals as goal

pub returns-in-Some-clause-ok : goal.returns-in-Some-clause-ok
returns-in-Some-clause-ok g c = λ before s k.
    let cover = rw c.in-Some.is at k in
    cover_run c.args.event.now cover
    (rw (c.columns_of.ensures, c.bits_of.ensures.value) at
    (c.cover.ensures (column 0 before) (band before) s.column_is s.band_is))

pub returns-else-is_raster-clause-ok : goal.returns-else-is_raster-clause-ok
returns-else-is_raster-clause-ok g c = λ before s k.
    let none : has_box before ≡ false = rw c.in-None.is at k in
    rw c.in-None.is
    (no_raster_stays before c.args.event.now (sym c.is_raster.ensures ∙ c.if-is_raster.false) none)
