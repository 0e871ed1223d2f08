use Rattle.sixel_ppm.proofs.PpmReadLemmas.{HasFed}
use Rattle.sixel_ppm.proofs.ppm.read.feed_header.Given as goal

abbrev pub invariant-loop-index : goal.invariant-loop-index
invariant-loop-index l = HasFed l.fn.begun l.progress l.piece l.index
