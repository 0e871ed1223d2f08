use Rattle.std.proofs.Common.{◌∙◌, sym}
use Rattle.sixel_foot.proofs.FootLemmas.{foot_alone}
use Rattle.sixel_foot.proofs.foot.FootReading.waits.Goals as goal

pub returns : goal.returns
returns c = λ is before next. foot_alone before c.args.event.now next (sym c.is_raster.ensures ∙ is)
