use Rattle.std.proofs.Common.{◌∙◌, ℕ, ap, refl}
use Rattle.sixel_emulator.specs.Modelled.{opening_of}
use Rattle.sixel_konsole.specs.Settings.{konsole_display}
use Rattle.sixel_named_terminals.proofs.showing.show_on_konsole.Goals as goal

pub returns : goal.returns
returns c =
    c.show_bytes.ensures c.args.background (c.args.width, c.args.height) (opening_of c.args.opening) refl
    c.as_konsole.ensures.followed
    (c.as_konsole.ensures.terminal ∙ c.in_ok-new.ensures.terminal ∙ c.in_ok-terminal.ensures
    ∙ ap (λ (n : ℕ). konsole_display c.args.background n c.args.width c.args.height) c.tall_in.ensures.value)
