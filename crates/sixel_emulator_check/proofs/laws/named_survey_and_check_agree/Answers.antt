use Rattle.sixel_model.specs.Profiles.{count_of}
use Rattle.sixel_model.proofs.PictureLemmas.{at_most_256}
use Rattle.sixel_emulator_check.proofs.WrittenLawLemmas.{empty_if_none_of, first_is_verdict_of}
use Rattle.sixel_emulator_check.proofs.laws.named_survey_and_check_agree.Goals as goal

pub returns : goal.returns
returns c = record {
  empty = λ profile. empty_if_none_of (count_of profile) (at_most_256 profile);
  first = λ profile. first_is_verdict_of (count_of profile) (at_most_256 profile);
}
