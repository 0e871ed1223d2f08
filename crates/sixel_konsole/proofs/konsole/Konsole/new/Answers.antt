use Rattle.sixel_konsole.proofs.KonsoleLemmas.{seen_none}
use Rattle.sixel_konsole.proofs.konsole.Konsole.new.Goals as goal

pub returns : goal.returns
returns c = seen_none
