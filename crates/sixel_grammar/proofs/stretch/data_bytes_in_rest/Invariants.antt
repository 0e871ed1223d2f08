use Rattle.std.proofs.Common.{◌-◌}
use Rattle.sixel_grammar.specs.Stretches.{AreData}
use Rattle.sixel_grammar.proofs.stretch.data_bytes_in_rest.Given as goal

abbrev pub invariant-loop-index : goal.invariant-loop-index
invariant-loop-index l = AreData l.from (l.index - l.from) l.piece
