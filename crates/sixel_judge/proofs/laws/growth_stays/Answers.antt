use Rattle.sixel_judge.proofs.GrowthLemmas.{growth_stays}
use Rattle.sixel_judge.proofs.laws.growth_stays.Goals as goal

pub returns : goal.returns
returns c = λ profile. growth_stays
