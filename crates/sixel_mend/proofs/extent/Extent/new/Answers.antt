use Rattle.std.proofs.Common.{refl}
use Rattle.sixel_mend.proofs.MeasureLemmas.{measures_none}
use Rattle.sixel_mend.proofs.extent.Extent.new.Goals as goal

pub returns : goal.returns
returns c = measures_none _ refl refl refl refl refl refl
