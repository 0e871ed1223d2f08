use Rattle.std.proofs.Common.{◌∙◌, [], refl}
use Rattle.sixel_named_terminals.proofs.showing.show_on_xterm.Goals as goal

pub returns : goal.returns
returns c =
    c.show_bytes.ensures c.args.background (c.args.width, c.args.height) [] refl c.as_xterm.ensures.followed
    (c.as_xterm.ensures.terminal ∙ c.in_ok-new.ensures.terminal ∙ c.in_ok-terminal.ensures)
