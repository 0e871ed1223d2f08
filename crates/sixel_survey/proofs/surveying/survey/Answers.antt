use Rattle.sixel_survey.proofs.surveying.survey.Goals as goal

pub returns : goal.returns
returns g c =
    let e = c.survey_with.ensures in
    record { answer = e.answer; failures = e.failures; unread = e.unread; left = e.left; memory = e.memory }
