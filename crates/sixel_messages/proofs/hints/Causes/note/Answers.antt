use Rattle.sixel_messages.proofs.CauseLemmas.{noted_survey}
use Rattle.sixel_messages.proofs.hints.Causes.note.Goals as goal

pub returns-in-Ok-Surveyed : goal.returns-in-Ok-Surveyed
returns-in-Ok-Surveyed c =
    noted_survey c.args.answer.now _ _ _ _ c.args.self.now.found.items _ _ c.in-Ok-Surveyed.is
    (rw c.in-Ok-Surveyed.is at c.in-Ok-Surveyed.field-0-is) c.rule.ensures c.add-in-Ok-Surveyed.ensures
    c.add_each.ensures
