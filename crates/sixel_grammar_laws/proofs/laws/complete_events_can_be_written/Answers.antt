use Rattle.sixel_grammar.proofs.WritableLemmas.{events_can}
use Rattle.sixel_grammar_laws.proofs.laws.complete_events_can_be_written.Goals as goal

pub returns : goal.returns
returns c = events_can
