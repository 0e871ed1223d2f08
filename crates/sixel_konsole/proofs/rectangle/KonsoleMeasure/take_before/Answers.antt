use Rattle.std.proofs.Common.{Some}
use Rattle.sixel_konsole.specs.Konsole.{konsole_drawing}
use Rattle.sixel_konsole.proofs.KonsoleMeasureLemmas.{measured_push}
use Rattle.sixel_konsole.proofs.rectangle.KonsoleMeasure.take_before.Goals as goal

pub returns : goal.returns
returns c = λ before next is s.
    let e = c.args.event.now in
    let reads = c.read_before-reads.ensures.reads before next is s.seen in
    let drawn = c.with_drawn-self.ensures (konsole_drawing before (Some e)) s.reach in
    measured_push _ before e next (c.read_before-reads.ensures.seen before s.seen) (rw reads at drawn)
