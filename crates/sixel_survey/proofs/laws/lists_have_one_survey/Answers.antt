use Rattle.sixel_survey.proofs.OneSurveyLemmas.{survey_exists, survey_once}
use Rattle.sixel_model.specs.Profiles.{count_of}
use Rattle.sixel_survey.proofs.laws.lists_have_one_survey.Goals as goal

pub returns : goal.returns
returns c = record {
  some = λ profile. survey_exists (count_of profile);
  once = λ profile. survey_once (count_of profile);
}
