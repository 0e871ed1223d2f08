use Rattle.std.proofs.Common.{◌+◌, ◌*◌}
use Rattle.sixel_plane.specs.Lanes.{AreChanged}
use Rattle.sixel_plane.proofs.lanes.fill_groups.Given as goal

abbrev pub invariant-loop-group : goal.invariant-loop-group
invariant-loop-group l = AreChanged l.from (l.from + l.group * 32) (λ b. l.value) l.initial.bytes l.bytes
