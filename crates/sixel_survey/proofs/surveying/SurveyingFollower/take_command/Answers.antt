use Rattle.std.proofs.lemmas.Result.{on_ok_weaker}
use Rattle.sixel_model.specs.Profiles.{count_of}
use Rattle.sixel_survey.proofs.surveying.SurveyingFollower.take_command.Goals as goal

pub returns-in-CarriageReturn-clause-taken : goal.returns-in-CarriageReturn-clause-taken
returns-in-CarriageReturn-clause-taken g c =
    on_ok_weaker c.take.result (λ ok first seen h. ok (count_of first.surveyor.profile) seen h) c.take.ensures.ok

pub returns-in-Select-clause-taken : goal.returns-in-Select-clause-taken
returns-in-Select-clause-taken g c =
    on_ok_weaker c.take-in-Select.result (λ ok first seen h. ok (count_of first.surveyor.profile) seen h)
    c.take-in-Select.ensures.ok

pub returns-in-Define-clause-taken : goal.returns-in-Define-clause-taken
returns-in-Define-clause-taken g c =
    on_ok_weaker c.take-in-Define.result (λ ok first seen h. ok (count_of first.surveyor.profile) seen h)
    c.take-in-Define.ensures.ok
