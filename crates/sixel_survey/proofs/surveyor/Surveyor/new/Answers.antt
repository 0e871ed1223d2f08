use Rattle.sixel_survey.proofs.SurveyorLemmas.{surveyed_none}
use Rattle.sixel_survey.proofs.surveyor.Surveyor.new.Goals as goal

pub returns : goal.returns
returns g c = surveyed_none c.args.profile c.new.result c.new.ensures
