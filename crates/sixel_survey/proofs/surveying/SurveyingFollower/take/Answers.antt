use Rattle.std.proofs.lemmas.Result.{on_ok_weaker}
use Rattle.sixel_model.specs.Profiles.{count_of}
use Rattle.sixel_survey.proofs.FollowLemmas.{stops_one}
use Rattle.sixel_survey.proofs.surveying.SurveyingFollower.take.Goals as goal

pub returns-clause-taken : goal.returns-clause-taken
returns-clause-taken g c =
    on_ok_weaker c.take.result (λ ok first seen h. ok (count_of first.surveyor.profile) seen h) c.take.ensures.ok

pub returns-clause-stopped : goal.returns-clause-stopped
returns-clause-stopped g c =
    stops_one (λ s. s.surveyor) c.args.self.now (record { surveyor = c.take.new.self; alloc = c.args.self.now.alloc })
    c.args.placed.now c.take.result c.take.ensures.declares
