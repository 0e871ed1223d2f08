use Rattle.sixel_grammar_laws.proofs.LengthLemmas.{spelling_within}
use Rattle.sixel_grammar_laws.proofs.laws.fixed_spelling_is_short.Goals as goal

pub returns : goal.returns
returns c = spelling_within
