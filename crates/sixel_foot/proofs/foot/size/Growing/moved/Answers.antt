use Rattle.sixel_foot.proofs.FootLemmas.{grown_not}
use Rattle.sixel_foot.proofs.foot.size.Growing.moved.Goals as goal

pub returns : goal.returns
returns c = λ before e none s place. grown_not c.args.place before e none s place
