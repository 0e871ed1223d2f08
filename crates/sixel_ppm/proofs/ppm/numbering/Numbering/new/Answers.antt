use Rattle.sixel_ppm.proofs.ppm.numbering.Numbering.new.Goals as goal

pub invariant_of-result-clause-unused : goal.invariant_of-result-clause-unused
invariant_of-result-clause-unused c = c.new.ensures.unused

pub invariant_of-result-clause-knows : goal.invariant_of-result-clause-knows
invariant_of-result-clause-knows c = c.new-2.ensures 100 c.new.result.palette
