use Rattle.std.proofs.Common.{◌≡◌, false, take}
use Rattle.sixel_omissions.specs.Rasters.{HasNoSign}
use Rattle.sixel_omissions.proofs.raster.has_sign.Given as goal

abbrev pub invariant-loop-at : goal.invariant-loop-at
invariant-loop-at l = l.has ≡ false → HasNoSign (take l.at l.bytes)
