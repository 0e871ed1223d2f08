use Rattle.sixel_model.proofs.RunLemmas.{IsRunBelow}
use Rattle.sixel_plane.proofs.band_plane.fill_column.Given as goal

abbrev pub invariant-loop-bit : goal.invariant-loop-bit
invariant-loop-bit l =
    IsRunBelow l.bit l.width l.column 1 l.band l.bits l.register 0 l.initial.registers l.registers
