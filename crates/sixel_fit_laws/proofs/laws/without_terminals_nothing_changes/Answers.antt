use Rattle.sixel_fit_laws.proofs.PortableLemmas.{none_changes_nothing}
use Rattle.sixel_fit_laws.proofs.laws.without_terminals_nothing_changes.Goals as goal

pub returns : goal.returns
returns c = none_changes_nothing
