use Rattle.sixel_encode.specs.Columns.{AreFilled}
use Rattle.sixel_encode.proofs.columns.find_last.Given as goal

abbrev pub invariant-loop-x : goal.invariant-loop-x
invariant-loop-x l = AreFilled l.at l.x l.rows l.width l.register l.fn.sixels l.sixels
