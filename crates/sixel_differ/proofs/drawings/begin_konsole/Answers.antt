use Rattle.std.proofs.Common.{◌∙◌}
use Rattle.sixel_differ.proofs.drawings.begin_konsole.Goals as goal

pub returns : goal.returns
returns c = record {
  terminal = c.as_konsole_at_once.ensures.terminal ∙ c.in_ok-new.ensures.terminal ∙ c.in_ok-terminal.ensures;
  followed = c.as_konsole_at_once.ensures.followed;
  measured = c.as_konsole_at_once.ensures.measured;
}
