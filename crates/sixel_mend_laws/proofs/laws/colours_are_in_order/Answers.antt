use Rattle.sixel_model.specs.Profiles.{count_of}
use Rattle.sixel_mend_laws.proofs.OrderLemmas as order
use Rattle.sixel_mend_laws.proofs.laws.colours_are_in_order.Goals as goal

pub returns : goal.returns
returns c = λ profile. order.colours_in_order (count_of profile)
