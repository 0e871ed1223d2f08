use Rattle.sixel_grammar.proofs.UniqueLemmas.{fault_stays}
use Rattle.sixel_grammar_laws.proofs.laws.faults_stay.Goals as goal

pub returns : goal.returns
returns c = fault_stays
