use Rattle.sixel_encode.specs.Columns.{AreGroupsMarked}
use Rattle.sixel_encode.proofs.groups.mark_pixels.Given as goal

abbrev pub invariant-loop-x : goal.invariant-loop-x
invariant-loop-x l = AreGroupsMarked l.at l.x l.pixels l.fn.marks l.marks
