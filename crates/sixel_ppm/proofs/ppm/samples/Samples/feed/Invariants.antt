use Rattle.std.proofs.Common.{length}
use Rattle.sixel_ppm.specs.PpmSamples.{HasRead}
use Rattle.sixel_ppm.proofs.ppm.samples.Samples.feed.Given as goal

abbrev pub invariant-loop-rest : goal.invariant-loop-rest
invariant-loop-rest l = HasRead l.fn.self l.self l.fn.piece l.rest

abbrev pub decreases-loop-rest : goal.decreases-loop-rest
decreases-loop-rest l = length l.rest
