use Rattle.sixel_terminal.proofs.PlainLemmas.{same_points_on_each}
use Rattle.sixel_terminal.proofs.laws.same_points_on_each.Goals as goal

pub returns : goal.returns
returns c = same_points_on_each
