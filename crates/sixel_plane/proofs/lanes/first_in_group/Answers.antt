use Rattle.std.proofs.Common.{◌==◌}
use Rattle.std.specs.Int.{bit_at}
use Rattle.sixel_plane.proofs.LaneLemmas.{first_in_group, none_in_group}
use Rattle.sixel_plane.proofs.lanes.first_in_group.Goals as goal

pub returns-then-run-lt-LANES : goal.returns-then-run-lt-LANES
returns-then-run-lt-LANES c =
    first_in_group (λ b. bit_at b c.args.bit == 0) c.args.at c.run_with-run.result c.args.bytes.now c.requires.within
    c.run_with-run.ensures c.if-run-lt-LANES.true

pub returns-else-run-lt-LANES : goal.returns-else-run-lt-LANES
returns-else-run-lt-LANES c =
    none_in_group (λ b. bit_at b c.args.bit == 0) c.args.at c.run_with-run.result c.args.bytes.now c.requires.within
    c.run_with-run.ensures c.if-run-lt-LANES.false
