use Rattle.std.proofs.Common.{refl}
use Rattle.sixel_konsole.proofs.KonsoleMeasureLemmas.{reach_none}
use Rattle.sixel_konsole.proofs.rectangle.Reach.new.Goals as goal

pub returns : goal.returns
returns c = reach_none _ (c.new.ensures 1) refl refl
