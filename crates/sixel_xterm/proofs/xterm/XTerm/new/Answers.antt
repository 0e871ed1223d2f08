use Rattle.sixel_xterm.proofs.XTermLemmas.{xterm_none}
use Rattle.sixel_xterm.proofs.xterm.XTerm.new.Goals as goal

pub returns : goal.returns
returns c = rw c.at_margin.ensures xterm_none
