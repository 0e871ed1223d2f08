use Rattle.std.proofs.Common.{◌*◌}
use Rattle.sixel_grammar.specs.Stretches.{AreData}
use Rattle.sixel_grammar.proofs.stretch.data_bytes_in.Given as goal

abbrev pub invariant-loop-group : goal.invariant-loop-group
invariant-loop-group l = AreData 0 (l.group * 16) l.piece
