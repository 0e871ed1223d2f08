use Rattle.std.proofs.Common.{◌≡◌, ◌-◌}
use Rattle.sixel_ppm.specs.PpmFeeding.{IsInHeader}
use Rattle.sixel_ppm.proofs.ppm.read.read_header.Given as goal

abbrev pub invariant-loop-count : goal.invariant-loop-count
invariant-loop-count g l =
    IsInHeader (g.S.Source.state l.fn.input).remaining (g.S.Source.state l.input).remaining l.progress
    × ((g.S.Source.state l.input).failures ≡ (g.S.Source.state l.fn.input).failures)

abbrev pub decreases-loop-count : goal.decreases-loop-count
decreases-loop-count g l = 65536 - l.progress.place
