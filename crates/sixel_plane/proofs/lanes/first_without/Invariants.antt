use Rattle.std.proofs.Common.{◌==◌, ◌+◌, ◌*◌}
use Rattle.std.specs.Int.{bit_at}
use Rattle.sixel_plane.specs.Lanes.{NonePasses}
use Rattle.sixel_plane.proofs.lanes.first_without.Given as goal

abbrev pub invariant-loop-group : goal.invariant-loop-group
invariant-loop-group l = NonePasses (λ b. bit_at b l.bit == 0) l.from (l.from + l.group * 32) l.bytes
