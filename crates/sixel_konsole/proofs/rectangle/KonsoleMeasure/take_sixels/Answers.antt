use Rattle.std.proofs.Common.{refl}
use Rattle.sixel_konsole.proofs.KonsoleMeasureLemmas.{measured_over}
use Rattle.sixel_konsole.proofs.rectangle.KonsoleMeasure.take_sixels.Goals as goal

pub returns : goal.returns
returns c = λ before next s.
    measured_over _ before c.args.bytes.now next c.requires.some s (c.note_sixels.ensures before s.seen)
    (λ drawing reach. c.reach_after-self.ensures drawing c.args.bytes.now refl reach)
