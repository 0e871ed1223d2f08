use Rattle.std.proofs.Common.{take}
use Rattle.sixel_omissions.specs.Rasters.{HasNoSign}
use Rattle.sixel_omissions.proofs.raster.find_sign.Given as goal

abbrev pub invariant-loop-at : goal.invariant-loop-at
invariant-loop-at l = HasNoSign (take l.at l.bytes)
