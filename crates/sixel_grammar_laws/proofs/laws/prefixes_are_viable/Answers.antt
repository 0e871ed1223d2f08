use Rattle.sixel_grammar.proofs.PrefixLemmas.{prefixes}
use Rattle.sixel_grammar_laws.proofs.laws.prefixes_are_viable.Goals as goal

pub returns : goal.returns
returns c = prefixes
