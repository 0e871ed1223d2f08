use Rattle.sixel_grammar.proofs.UniqueLemmas.{document_once}
use Rattle.sixel_grammar_laws.proofs.laws.one_document.Goals as goal

pub returns : goal.returns
returns c = document_once
