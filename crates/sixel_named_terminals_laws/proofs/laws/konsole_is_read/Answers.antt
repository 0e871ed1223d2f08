use Rattle.sixel_konsole.proofs.KonsoleReadLemmas.{konsole_read}
use Rattle.sixel_named_terminals_laws.proofs.laws.konsole_is_read.Goals as goal

pub returns : goal.returns
returns c = konsole_read
