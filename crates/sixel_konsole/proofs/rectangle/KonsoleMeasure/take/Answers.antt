use Rattle.std.proofs.Common.{sym}
use Rattle.sixel_konsole.proofs.rectangle.KonsoleMeasure.take.Goals as goal

pub returns : goal.returns
returns c = λ before s. c.take_before.ensures before _ (sym c.drops.ensures) s
