use Rattle.sixel_ppm.proofs.ppm.samples.Samples.new.Goals as goal

pub invariant_of-result-clause-unused : goal.invariant_of-result-clause-unused
invariant_of-result-clause-unused c = c.new-3.ensures.unused

pub invariant_of-result-clause-knows : goal.invariant_of-result-clause-knows
invariant_of-result-clause-knows c = c.new.ensures c.args.header.maxval c.new-3.result.palette

pub invariant_of-result-clause-knows_seen : goal.invariant_of-result-clause-knows_seen
invariant_of-result-clause-knows_seen c = c.new-2.ensures 100 c.new-3.result.palette
