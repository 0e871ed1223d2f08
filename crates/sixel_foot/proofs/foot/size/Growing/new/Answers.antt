use Rattle.sixel_foot.proofs.FootLemmas.{grown_none}
use Rattle.sixel_foot.proofs.foot.size.Growing.new.Goals as goal

pub returns : goal.returns
returns c = grown_none c.new.result (c.new.ensures 1)
