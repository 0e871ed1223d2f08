use Rattle.std.proofs.Common.{◌≡◌, ◌≤◌, ◌*◌, ◌/◌, ◌%◌}
use Rattle.std.specs.Prelude.{count_by, is_none}
use Rattle.std.specs.List.{range_with_len}
use Rattle.sixel_model.specs.Grids.{cell}
use Rattle.sixel_survey.proofs.cover.count_rows.Given as goal

abbrev pub invariant-loop-y : goal.invariant-loop-y
invariant-loop-y g l =
    (l.count ≤ l.y * (g.P.Cover.grid l.plane).width)
    × (l.count
    ≡ count_by (λ i.
    is_none (cell (g.P.Cover.grid l.plane) (i % (g.P.Cover.grid l.plane).width) (i / (g.P.Cover.grid l.plane).width)))
    (range_with_len 0 (l.y * (g.P.Cover.grid l.plane).width)))
