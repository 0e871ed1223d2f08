use Rattle.std.proofs.Common.{◌≡◌}
use Rattle.sixel_ppm.specs.PpmFeeding.{IsInSamples}
use Rattle.sixel_ppm.specs.PpmSamples.{budget}
use Rattle.sixel_ppm.proofs.ppm.read.read_samples.Given as goal

abbrev pub invariant-loop-samples : goal.invariant-loop-samples
invariant-loop-samples g l =
    IsInSamples (g.S.Source.state l.fn.input).remaining (g.S.Source.state l.input).remaining l.fn.begun l.samples
    × ((g.S.Source.state l.input).failures ≡ (g.S.Source.state l.fn.input).failures)

abbrev pub decreases-loop-samples : goal.decreases-loop-samples
decreases-loop-samples g l = budget l.samples
