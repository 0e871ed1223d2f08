use Rattle.sixel_xterm.proofs.XTermLemmas.{xterm_over}
use Rattle.sixel_xterm.proofs.xterm.XTerm.after_sixels.Goals as goal

pub returns : goal.returns
returns c = λ before s.
    xterm_over c.after_sixels.result c.args.bytes.now s
    (c.after_sixels.ensures before s.pen_is (c.is_past_rows.ensures before s))
