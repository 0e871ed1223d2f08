use Rattle.sixel_grammar.proofs.TotalLemmas.{complete_prefix}
use Rattle.sixel_grammar_laws.proofs.laws.complete_events_come_first.Goals as goal

pub returns : goal.returns
returns c = complete_prefix
