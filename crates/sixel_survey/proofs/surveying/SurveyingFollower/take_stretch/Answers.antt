use Rattle.sixel_model.specs.Profiles.{count_of}
use Rattle.sixel_survey.proofs.surveying.SurveyingFollower.take_stretch.Goals as goal

pub returns-clause-taken : goal.returns-clause-taken
returns-clause-taken g c = λ first seen h. c.take_stretch.ensures (count_of first.surveyor.profile) seen h
