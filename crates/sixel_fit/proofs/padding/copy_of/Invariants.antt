use Rattle.sixel_fit.proofs.RowsLemmas.{IsCopiedTo}
use Rattle.sixel_fit.proofs.padding.copy_of.Given as goal

abbrev pub invariant-loop-register : goal.invariant-loop-register
invariant-loop-register l = IsCopiedTo l.register l.palette l.copy
