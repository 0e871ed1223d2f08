use Rattle.sixel_grammar.specs.declared.command.Event.TheVariants.{Step}
use Rattle.sixel_foot.proofs.FootColourLemmas.{colours_same, no_definition}
use Rattle.sixel_foot.proofs.foot.colours.Colours.note_command.Goals as goal

pub returns-in-Define : goal.returns-in-Define
returns-in-Define c = λ before s. rw c.in-Define.is (c.note_definition.ensures before s)

pub returns-in_default : goal.returns-in_default
returns-in_default c = λ before s.
    colours_same (Step c.args.command) s (no_definition c.args.command c.in_default.not-Define)
