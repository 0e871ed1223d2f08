use Rattle.sixel_model.specs.Profiles.{count_of}
use Rattle.sixel_check_laws.proofs.ExactLemmas as exact
use Rattle.sixel_check_laws.proofs.laws.coordinates_are_exact.Goals as goal

pub returns : goal.returns
returns c = λ profile. exact.coordinates_are_exact (count_of profile)
