use Rattle.sixel_grammar.proofs.UniqueLemmas.{complete_stays}
use Rattle.sixel_grammar_laws.proofs.laws.complete_events_stay.Goals as goal

pub returns : goal.returns
returns c = complete_stays
