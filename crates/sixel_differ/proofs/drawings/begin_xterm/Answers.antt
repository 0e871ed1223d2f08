use Rattle.std.proofs.Common.{◌∙◌}
use Rattle.sixel_differ.proofs.drawings.begin_xterm.Goals as goal

pub returns : goal.returns
returns c = record {
  terminal = c.as_xterm.ensures.terminal ∙ c.in_ok-new.ensures.terminal ∙ c.in_ok-terminal.ensures;
  followed = c.as_xterm.ensures.followed;
}
