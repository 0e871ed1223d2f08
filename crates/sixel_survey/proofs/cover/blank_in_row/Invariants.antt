use Rattle.std.proofs.Common.{◌≡◌, ◌≤◌}
use Rattle.sixel_survey.specs.Covering.{blank_cells_in_row}
use Rattle.sixel_survey.proofs.cover.blank_in_row.Given as goal

abbrev pub invariant-loop-x : goal.invariant-loop-x
invariant-loop-x g l = (l.count ≤ l.x) × (l.count ≡ blank_cells_in_row (g.P.Cover.grid l.plane) l.y l.x)
