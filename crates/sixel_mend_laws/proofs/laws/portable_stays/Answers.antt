use Rattle.sixel_mend_laws.proofs.StaysLemmas as stays
use Rattle.sixel_mend_laws.proofs.laws.portable_stays.Goals as goal

pub returns : goal.returns
returns c = stays.portable_stays
