use Rattle.sixel_grammar.proofs.SpelledLemmas.{fixed_spells}
use Rattle.sixel_grammar_laws.proofs.laws.fixed_spelling_spells.Goals as goal

pub returns : goal.returns
returns c = fixed_spells
