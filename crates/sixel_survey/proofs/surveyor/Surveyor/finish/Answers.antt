use Rattle.std.proofs.Common.{subst, sym}
use Rattle.sixel_grammar.specs.Document.{events_of}
use Rattle.sixel_survey.specs.Surveying.{HasSurveyed, SurveyorValue}
use Rattle.sixel_survey.proofs.SurveyorLemmas.{finished}
use Rattle.sixel_survey.proofs.surveyor.Surveyor.finish.Goals as goal

pub returns : goal.returns
returns g c = λ registers seen bytes h d.
    let g = subst (λ (s : SurveyorValue). HasSurveyed registers s seen) (sym c.self.view_is) h in
    finished _ c.blank_in.result g d (c.blank_in.ensures (events_of seen) g.grid_is) c.entries_of-entries.ensures
    (rw c.as_slice.ensures.value at c.size_without-size.ensures.none)
    (rw c.as_slice.ensures.value at c.size_without-size.ensures.some)
