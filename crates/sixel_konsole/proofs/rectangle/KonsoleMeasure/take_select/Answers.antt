use Rattle.std.proofs.Common.{refl}
use Rattle.sixel_konsole.proofs.KonsoleMeasureLemmas.{measured_select}
use Rattle.sixel_konsole.proofs.rectangle.KonsoleMeasure.take_select.Goals as goal

pub returns : goal.returns
returns c = λ before next s.
    measured_select _ before c.args.register next refl (c.see.ensures before s.seen) s
