use Rattle.sixel_foot.proofs.FootColourLemmas.{colours_same, no_step}
use Rattle.sixel_foot.proofs.foot.colours.Colours.note.Goals as goal

pub returns-in-Step : goal.returns-in-Step
returns-in-Step c = λ before s. rw c.in-Step.is (c.note_command.ensures before s)

pub returns-in_default : goal.returns-in_default
returns-in_default c = λ before s. colours_same c.args.event.now s (no_step c.args.event.now c.in_default.not-Step)
