use Rattle.sixel_judge.proofs.SteadyLemmas.{painted_colour_is_left}
use Rattle.sixel_model.specs.Profiles.{count_of}
use Rattle.sixel_judge.proofs.laws.painted_colour_is_left.Goals as goal

pub returns : goal.returns
returns c = λ profile. painted_colour_is_left (count_of profile)
