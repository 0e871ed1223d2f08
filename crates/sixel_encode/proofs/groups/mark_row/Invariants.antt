use Rattle.sixel_encode.specs.Columns.{AreGroupsMarked}
use Rattle.sixel_encode.proofs.groups.mark_row.Given as goal

abbrev pub invariant-loop-x : goal.invariant-loop-x
invariant-loop-x l = AreGroupsMarked 0 l.x l.pixels l.fn.marks l.marks
