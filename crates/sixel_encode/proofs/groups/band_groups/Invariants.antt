use Rattle.sixel_encode.proofs.GroupLemmas.{AreRows}
use Rattle.sixel_encode.proofs.groups.band_groups.Given as goal

abbrev pub invariant-loop-row : goal.invariant-loop-row
invariant-loop-row l = AreRows l.picture l.band l.row l.marks
