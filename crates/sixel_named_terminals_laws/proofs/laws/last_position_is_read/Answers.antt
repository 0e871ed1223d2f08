use Rattle.std.proofs.Common.{[]}
use Rattle.sixel_emulator.proofs.PositionLemmas.{read_there}
use Rattle.sixel_named_terminals_laws.proofs.laws.last_position_is_read.Goals as goal

pub returns : goal.returns
returns c = λ m before e. read_there m before [] e
