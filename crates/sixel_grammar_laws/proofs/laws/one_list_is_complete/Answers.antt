use Rattle.sixel_grammar.proofs.UniqueLemmas.{complete_once}
use Rattle.sixel_grammar_laws.proofs.laws.one_list_is_complete.Goals as goal

pub returns : goal.returns
returns c = complete_once
