use Rattle.sixel_grammar.proofs.UniqueLemmas.{fault_no_document}
use Rattle.sixel_grammar_laws.proofs.laws.faults_are_no_documents.Goals as goal

pub returns : goal.returns
returns c = fault_no_document
