use Rattle.sixel_grammar.proofs.UniqueLemmas.{parsed_prefix}
use Rattle.sixel_grammar_laws.proofs.laws.prefixes_of_documents_are_viable.Goals as goal

pub returns : goal.returns
returns c = parsed_prefix
