use Rattle.sixel_grammar.proofs.TotalLemmas.{judged}
use Rattle.sixel_grammar_laws.proofs.laws.documents_or_faults.Goals as goal

pub returns : goal.returns
returns c = judged
