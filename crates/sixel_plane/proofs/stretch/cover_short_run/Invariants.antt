use Rattle.std.proofs.Common.{◌*◌}
use Rattle.std.specs.Int.Bits.{bit_or}
use Rattle.sixel_plane.specs.Stretches.{AreMapped, run_sixel}
use Rattle.sixel_plane.proofs.stretch.cover_short_run.Given as goal

abbrev pub invariant-loop-group : goal.invariant-loop-group
invariant-loop-group l =
    AreMapped l.covered (l.group * 16) (λ j b. bit_or b (run_sixel l.bits l.count j)) l.initial.coverage l.coverage
