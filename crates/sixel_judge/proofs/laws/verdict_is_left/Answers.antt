use Rattle.sixel_judge.proofs.AnswerLemmas.{verdict_is_left}
use Rattle.sixel_model.specs.Profiles.{count_of}
use Rattle.sixel_judge.proofs.laws.verdict_is_left.Goals as goal

pub returns : goal.returns
returns c = λ profile. verdict_is_left (count_of profile)
