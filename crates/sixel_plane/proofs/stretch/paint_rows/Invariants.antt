use Rattle.std.proofs.Common.{get_or}
use Rattle.sixel_plane.specs.Stretches.{ArePainted}
use Rattle.sixel_plane.proofs.stretch.paint_rows.Given as goal

abbrev pub invariant-loop-bit : goal.invariant-loop-bit
invariant-loop-bit l = ArePainted l.bit l.width l.at 16
    (λ j. get_or l.sixels j 0) l.register l.initial.registers l.registers
