use Rattle.sixel_judge.proofs.ShownLemmas.{left_is_portable}
use Rattle.sixel_model.specs.Profiles.{count_of}
use Rattle.sixel_judge.proofs.laws.left_is_portable.Goals as goal

pub returns : goal.returns
returns c = λ profile. left_is_portable (count_of profile)
