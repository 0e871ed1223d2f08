use Rattle.sixel_differ.proofs.drawings.begin.Goals as goal

pub returns : goal.returns
returns c = record {
  xterm = c.in_ok-xterm.ensures;
  mlterm = c.in_ok-mlterm.ensures;
  foot = c.in_ok-foot.ensures;
  konsole = c.in_ok-konsole.ensures;
}
