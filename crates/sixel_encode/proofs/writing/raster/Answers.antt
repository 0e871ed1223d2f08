use Rattle.std.proofs.Common.{refl}
use Rattle.sixel_encode.proofs.writing.raster.Goals as goal

pub returns : goal.returns
returns c = rw (c.width.ensures.same, c.height.ensures.same) refl
