use Rattle.sixel_grammar.proofs.StandLemmas.{read_complete}
use Rattle.sixel_grammar_laws.proofs.laws.what_a_reader_read.Goals as goal

pub returns : goal.returns
returns c = read_complete
