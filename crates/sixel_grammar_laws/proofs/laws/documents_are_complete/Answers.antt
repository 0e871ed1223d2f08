use Rattle.sixel_grammar.proofs.UniqueLemmas.{document_complete}
use Rattle.sixel_grammar_laws.proofs.laws.documents_are_complete.Goals as goal

pub returns : goal.returns
returns c = document_complete
