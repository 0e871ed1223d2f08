use Rattle.std.proofs.Common.{◌≡◌, ◌∙◌, [], List, None, ap, refl, subst, sym}
use Rattle.sixel_model.specs.Profiles.{count_of}
use Rattle.sixel_survey.proofs.ReadsLemmas.{reads_on}
use Rattle.sixel_emulator_rules.specs.Tallies.{AreAskedEntries}
use Rattle.sixel_emulator_rules.specs.declared.tally.AskedEntry.{AskedEntry}
use Rattle.sixel_emulator_rules.specs.declared.terminals.Terminals.{Terminals}
use Rattle.sixel_emulator_check.specs.Laws.{none}
use Rattle.sixel_emulator_check.specs.Surveys.{size_beside}
use Rattle.sixel_emulator_check.specs.Written.{IsBareOn, IsSpaceOn}
use Rattle.sixel_emulator_check.proofs.SurveyingLemmas.{joined, none_asked_for}
use Rattle.sixel_emulator_check.proofs.WrittenLemmas.{survey_alone}
use Rattle.sixel_emulator_check.proofs.surveying.survey_on.Goals as goal

pub returns-then-are_none : goal.returns-then-are_none
returns-then-are_none g c =
    let is : c.args.terminals ≡ none = c.are_none.ensures c.if-are_none.true in
    reads_on c.in_ok-survey.survey c.join_survey.result (g.S.Source.state c.args.input.now) _
    (λ bytes h. (
      h.0,
      h.1,
      survey_alone (count_of c.args.profile) c.args.terminals bytes h.0 c.join_survey.result
          (subst (λ (t : Terminals). IsBareOn t bytes None) (sym is) refl)
          (subst (λ (t : Terminals). IsSpaceOn t bytes None) (sym is) refl)
          (joined c.join_survey.result c.join_survey.ensures.entries
          (ap (λ l. l.items) c.join_survey.ensures.asked ∙ c.new.ensures)
          (c.join_survey.ensures.size
          ∙ ap (λ (l : List AskedEntry). size_beside l c.in_ok-survey.survey.size) c.new.ensures)
          h.2
          (subst (λ (t : Terminals). AreAskedEntries t h.0 []) (sym is) (none_asked_for h.0))),
    ))
    c.in_ok-survey.ensures
