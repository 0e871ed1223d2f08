use Rattle.sixel_mlterm.proofs.MlTermLemmas.{seen_none}
use Rattle.sixel_mlterm.proofs.mlterm.MlTerm.new.Goals as goal

pub returns : goal.returns
returns c = seen_none c.new.result c.new-2.result (c.new.ensures 0) c.new-2.ensures
