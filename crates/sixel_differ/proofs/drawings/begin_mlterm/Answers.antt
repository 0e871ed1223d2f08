use Rattle.std.proofs.Common.{◌∙◌}
use Rattle.sixel_differ.proofs.drawings.begin_mlterm.Goals as goal

pub returns : goal.returns
returns c = record {
  terminal = c.as_mlterm.ensures.terminal ∙ c.in_ok-new.ensures.terminal ∙ c.in_ok-terminal.ensures;
  followed = c.as_mlterm.ensures.followed;
}
