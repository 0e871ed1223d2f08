use Rattle.sixel_survey.proofs.FirstEntryLemmas.{empty_if_none, first_is_verdict, some_first}
use Rattle.sixel_model.specs.Profiles.{count_of}
use Rattle.sixel_survey.proofs.laws.survey_and_check.Goals as goal

pub returns : goal.returns
returns c = record {
  empty = λ profile. empty_if_none (count_of profile);
  some = λ profile. some_first (count_of profile);
  first = λ profile. first_is_verdict (count_of profile);
}
