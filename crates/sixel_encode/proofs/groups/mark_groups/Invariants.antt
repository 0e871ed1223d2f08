use Rattle.std.proofs.Common.{◌*◌}
use Rattle.sixel_encode.specs.Columns.{AreGroupsMarked}
use Rattle.sixel_encode.proofs.groups.mark_groups.Given as goal

abbrev pub invariant-loop-group : goal.invariant-loop-group
invariant-loop-group l = AreGroupsMarked 0 (l.group * 32) l.pixels l.fn.marks l.marks
