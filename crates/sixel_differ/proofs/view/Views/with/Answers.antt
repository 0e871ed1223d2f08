use Rattle.std.proofs.Common.{sym, ◌∙◌}
use Rattle.sixel_differ.proofs.ViewLemmas.{one_height, one_width, whole}
use Rattle.sixel_differ.proofs.view.Views.with.Goals as goal

pub first_unlike-requires-clause-width : goal.first_unlike-requires-clause-width
first_unlike-requires-clause-width c =
    one_width (c.requires.sides c.args.named c.in-First-Screen.other (sym c.view.ensures ∙ c.in-First-Screen.is-1))
    c.requires.screen

pub first_unlike-requires-clause-height : goal.first_unlike-requires-clause-height
first_unlike-requires-clause-height c =
    one_height (c.requires.sides c.args.named c.in-First-Screen.other (sym c.view.ensures ∙ c.in-First-Screen.is-1))
    c.requires.screen

pub first_unlike-requires-clause-whole : goal.first_unlike-requires-clause-whole
first_unlike-requires-clause-whole c =
    whole (c.requires.sides c.args.named c.in-First-Screen.other (sym c.view.ensures ∙ c.in-First-Screen.is-1))

pub first_unlike-requires-in-Differs-Screen-clause-width : goal.first_unlike-requires-in-Differs-Screen-clause-width
first_unlike-requires-in-Differs-Screen-clause-width c =
    one_width (c.requires.sides c.args.named c.in-Differs-Screen.other (sym c.view.ensures ∙ c.in-Differs-Screen.is-1))
    c.requires.screen

pub first_unlike-requires-in-Differs-Screen-clause-height : goal.first_unlike-requires-in-Differs-Screen-clause-height
first_unlike-requires-in-Differs-Screen-clause-height c =
    one_height (c.requires.sides c.args.named c.in-Differs-Screen.other (sym c.view.ensures ∙ c.in-Differs-Screen.is-1))
    c.requires.screen

pub first_unlike-requires-in-Differs-Screen-clause-whole : goal.first_unlike-requires-in-Differs-Screen-clause-whole
first_unlike-requires-in-Differs-Screen-clause-whole c =
    whole (c.requires.sides c.args.named c.in-Differs-Screen.other (sym c.view.ensures ∙ c.in-Differs-Screen.is-1))
