use Rattle.std.proofs.Common.{◌∙◌, Some, sym}
use Rattle.sixel_konsole.specs.Konsole.{konsole_drawing}
use Rattle.sixel_konsole.proofs.KonsoleMeasureLemmas.{measured_push}
use Rattle.sixel_konsole.proofs.rectangle.KonsoleMeasure.take_alone.Goals as goal

pub returns : goal.returns
returns c = λ before next s.
    let e = c.args.event.now in
    let reads = c.read-reads.ensures.reads before s.seen ∙ sym (c.requires before next) in
    let drawn = c.with_drawn-self.ensures (konsole_drawing before (Some e)) s.reach in
    measured_push _ before e _ (c.read-reads.ensures.seen before s.seen) (rw reads at drawn)
