use Rattle.sixel_fit_laws.proofs.PortableLemmas.{nothing_of_it_is_lost}
use Rattle.sixel_fit_laws.proofs.laws.nothing_of_a_string_is_lost.Goals as goal

pub returns : goal.returns
returns c = nothing_of_it_is_lost
