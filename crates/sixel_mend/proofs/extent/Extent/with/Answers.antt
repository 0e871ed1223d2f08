use Rattle.sixel_grammar.specs.declared.command.Event.TheVariants.{Step}
use Rattle.sixel_mend.proofs.MeasureLemmas.{measures_idle, measures_push}
use Rattle.sixel_mend.proofs.extent.Extent.with.Goals as goal

pub returns-in-Step : goal.returns-in-Step
returns-in-Step c = λ before s.
    let e = c.after.ensures in
    rw c.in-Step.is
    (measures_push c.after.result (Step c.in-Step.command) s e.column e.band e.width e.height e.declared
    e.hls)

pub returns-in_default : goal.returns-in_default
returns-in_default c = λ before s. measures_idle c.args.event.now c.in_default.not-Step s
