use Rattle.sixel_grammar.proofs.TotalLemmas.{document_whole}
use Rattle.sixel_grammar_laws.proofs.laws.documents_are_whole.Goals as goal

pub returns : goal.returns
returns c = document_whole
