use Rattle.std.proofs.Common.{◌∷◌}
use Rattle.sixel_emulator.proofs.PositionLemmas.{read_there}
use Rattle.sixel_named_terminals_laws.proofs.laws.positions_are_read.Goals as goal

pub returns : goal.returns
returns c = λ m before rest e next. read_there m before (next ∷ rest) e
