use Rattle.sixel_plane.proofs.LaneLemmas.{filled_group}
use Rattle.sixel_plane.proofs.lanes.fill_group.Goals as goal

pub returns : goal.returns
returns c = filled_group c.args.at c.args.value c.args.bytes.now c.requires
