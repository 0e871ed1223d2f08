use Rattle.sixel_model.specs.Profiles.{count_of}
use Rattle.sixel_emulator_check.proofs.NoneLemmas.{same_as_check}
use Rattle.sixel_emulator_check.proofs.laws.a_check_for_none_is_a_check.Goals as goal

pub returns : goal.returns
returns c = λ profile. same_as_check (count_of profile)
