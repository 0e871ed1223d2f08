use Rattle.sixel_grammar.proofs.UniqueLemmas.{fault_once}
use Rattle.sixel_grammar_laws.proofs.laws.one_fault.Goals as goal

pub returns : goal.returns
returns c = fault_once
