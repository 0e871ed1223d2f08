use Rattle.sixel_plane.proofs.LaneLemmas.{or_group}
use Rattle.sixel_plane.proofs.lanes.or_into_group.Goals as goal

pub returns : goal.returns
returns c = or_group c.args.at c.args.bits c.args.bytes.now c.requires
