use Rattle.sixel_plane.proofs.StretchLemmas.{equal_of}
use Rattle.sixel_plane.proofs.stretch.sixels_of_run.Goals as goal

pub returns : goal.returns
returns c = equal_of c.args.bits c.args.count
