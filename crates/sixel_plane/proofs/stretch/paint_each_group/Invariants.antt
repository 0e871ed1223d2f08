use Rattle.std.proofs.Common.{◌*◌}
use Rattle.std.specs.Int.Bits.{bit_or}
use Rattle.sixel_plane.specs.Stretches.{AreMapped, ArePainted, sixel_of}
use Rattle.sixel_plane.proofs.stretch.paint_each_group.Given as goal

abbrev pub invariant-loop-group : goal.invariant-loop-group
invariant-loop-group l =
    ArePainted 6 l.width l.start (l.group * 16) (sixel_of l.bytes l.count) l.register l.initial.registers l.registers
    × AreMapped l.covered (l.group * 16) (λ j b. bit_or b (sixel_of l.bytes l.count j)) l.initial.coverage l.coverage
