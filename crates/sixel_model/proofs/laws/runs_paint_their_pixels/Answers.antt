use Rattle.sixel_model.proofs.GridLemmas.{cell-painted_grid}
use Rattle.sixel_model.proofs.laws.runs_paint_their_pixels.Goals as goal

pub returns : goal.returns
returns c = cell-painted_grid
