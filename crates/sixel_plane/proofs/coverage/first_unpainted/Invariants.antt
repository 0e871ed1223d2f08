use Rattle.sixel_plane.specs.BandPlanes.{has_coverage_bit}
use Rattle.sixel_model.specs.Grids.{RowsArePainted}
use Rattle.sixel_plane.proofs.coverage.first_unpainted.Given as goal

abbrev pub invariant-loop-row : goal.invariant-loop-row
invariant-loop-row l = RowsArePainted l.width (has_coverage_bit l.width l.coverage) l.row
