use Rattle.std.proofs.Common.{◌==◌, not}
use Rattle.sixel_plane.proofs.LaneLemmas.{first_in_group, none_in_group}
use Rattle.sixel_encode.proofs.lanes.first_in_group.Goals as goal

pub returns-then-count-lt-LANES : goal.returns-then-count-lt-LANES
returns-then-count-lt-LANES c =
    first_in_group (λ b. not (b == c.args.byte)) c.args.at c.equal_in_group-count.result c.args.bytes.now c.requires
    c.equal_in_group-count.ensures c.if-count-lt-LANES.true

pub returns-else-count-lt-LANES : goal.returns-else-count-lt-LANES
returns-else-count-lt-LANES c =
    none_in_group (λ b. not (b == c.args.byte)) c.args.at c.equal_in_group-count.result c.args.bytes.now c.requires
    c.equal_in_group-count.ensures c.if-count-lt-LANES.false
