use Rattle.sixel_encode.specs.Columns.{is_in_row}
use Rattle.sixel_encode.proofs.AddedLemmas.{Spells}
use Rattle.sixel_encode.proofs.rows.column_sixel.Given as goal

abbrev pub invariant-loop-row : goal.invariant-loop-row
invariant-loop-row l = Spells (is_in_row l.rows l.width l.register l.x) l.row l.sixel
