use Rattle.sixel_model.proofs.GridLemmas.{cell-blank_grid}
use Rattle.sixel_model.proofs.laws.blank_grids_are_blank.Goals as goal

pub returns : goal.returns
returns c = cell-blank_grid
