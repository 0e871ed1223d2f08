use Rattle.std.proofs.Common.{◌≡◌, true, false}
use Rattle.sixel_model.proofs.RunLemmas.{IsRunBelow}
use Rattle.sixel_plane.proofs.byte_plane.BytePlaneCover.paint_run.Given as goal

abbrev pub invariant-loop-bit : goal.invariant-loop-bit
invariant-loop-bit l = record {
  same_width : l.self-inside.width ≡ l.initial.self-inside.width;
  same_height : l.self-inside.height ≡ l.initial.self-inside.height;
  painted : IsRunBelow l.bit l.initial.self-inside.width l.column l.count l.band l.bits l.register 0
      l.initial.self-inside.registers.items l.self-inside.registers.items;
  marked : IsRunBelow l.bit l.initial.self-inside.width l.column l.count l.band l.bits true false
      l.initial.self-inside.marks.items l.self-inside.marks.items;
}
