use Rattle.std.proofs.Common.{◌∙◌, sym}
use Rattle.sixel_xterm.proofs.XTermLemmas.{xterm_blanks}
use Rattle.sixel_xterm.proofs.xterm.XTermReading.draws_blanks.Goals as goal

pub returns : goal.returns
returns c = λ is before s. xterm_blanks before (sym (c.is_free.ensures before s) ∙ is)
