use Rattle.sixel_foot.proofs.FootColourLemmas.{colours_none, only_none}
use Rattle.sixel_foot.proofs.foot.colours.Colours.new.Goals as goal

pub returns : goal.returns
returns c = colours_none _ (c.in_ok-vec.ensures.items_if_clones_equal (only_none _ (λ z k. k)))
