use Rattle.std.proofs.Common.{◌+◌, ◌*◌}
use Rattle.std.specs.Int.Bits.{bit_or}
use Rattle.sixel_plane.specs.Lanes.{AreChanged}
use Rattle.sixel_plane.proofs.lanes.or_into_groups.Given as goal

abbrev pub invariant-loop-group : goal.invariant-loop-group
invariant-loop-group l = AreChanged l.from (l.from + l.group * 32) (λ b. bit_or b l.bits) l.initial.bytes l.bytes
