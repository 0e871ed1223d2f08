use Rattle.std.proofs.Common.{sym, ◌∙◌}
use Rattle.sixel_differ.proofs.view.Views.standing.Goals as goal

pub standing_before-requires-clause-screen : goal.standing_before-requires-clause-screen
standing_before-requires-clause-screen c =
    c.requires c.args.named c.in-Screen.screen (sym c.view.ensures ∙ c.in-Screen.is)
