use Rattle.sixel_terminal.proofs.SelectLemmas.{known_is_selected}
use Rattle.sixel_terminal.proofs.laws.known_is_selected.Goals as goal

pub returns : goal.returns
returns c = known_is_selected
