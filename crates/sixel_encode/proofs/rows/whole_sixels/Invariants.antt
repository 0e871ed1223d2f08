use Rattle.std.proofs.Common.{◌≡◌, ◌<◌, ◌+◌, ℕ, get_or, length}
use Rattle.sixel_encode.specs.Columns.{is_in_row}
use Rattle.sixel_encode.proofs.AddedLemmas.{Spells}
use Rattle.sixel_encode.proofs.rows.whole_sixels.Given as goal

abbrev pub invariant-loop-row : goal.invariant-loop-row
invariant-loop-row l = record {
  long : length l.group ≡ 32;
  spelled : (j : ℕ) → j < 32 → Spells (is_in_row l.rows l.width l.register (l.at + j)) l.row (get_or l.group j 0);
}
