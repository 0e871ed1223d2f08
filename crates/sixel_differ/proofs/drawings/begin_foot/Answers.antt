use Rattle.std.proofs.Common.{◌≡◌, ◌∙◌, subst}
use Rattle.std.specs.Prelude.{IfOk}
use Rattle.sixel_terminal.specs.Displays.{Display}
use Rattle.sixel_named_terminals.specs.declared.named.Named.TheVariants.{Foot}
use Rattle.sixel_foot.specs.FootSeen.{HasSeenFoot}
use Rattle.sixel_differ.proofs.DrawingLemmas.{drawn_if_ok}
use Rattle.sixel_differ.proofs.drawings.begin_foot.Goals as goal

pub returns : goal.returns
returns c =
    drawn_if_ok Foot HasSeenFoot c.args.background (c.args.width, c.args.height) c.as_foot.result
    (subst (λ (t : Display). IfOk c.as_foot.result (λ m. m.progress.drawing.terminal ≡ t))
    (c.in_ok-new.ensures.terminal ∙ c.in_ok-terminal.ensures) c.as_foot.ensures.terminal)
    c.as_foot.ensures.followed
