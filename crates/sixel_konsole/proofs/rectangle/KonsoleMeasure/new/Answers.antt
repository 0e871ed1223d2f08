use Rattle.sixel_konsole.proofs.KonsoleMeasureLemmas.{measured_none}
use Rattle.sixel_konsole.proofs.rectangle.KonsoleMeasure.new.Goals as goal

pub returns : goal.returns
returns c = λ next. measured_none _ next c.new.ensures c.new-2.ensures
