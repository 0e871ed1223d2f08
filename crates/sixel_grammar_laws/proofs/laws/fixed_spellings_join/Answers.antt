use Rattle.sixel_grammar.proofs.FixedTextLemmas.{fixed_document}
use Rattle.sixel_grammar_laws.proofs.laws.fixed_spellings_join.Goals as goal

pub returns : goal.returns
returns c = fixed_document
