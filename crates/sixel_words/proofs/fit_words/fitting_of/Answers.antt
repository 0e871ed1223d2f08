use Rattle.std.proofs.Common.{refl}
use Rattle.sixel_words.proofs.fit_words.fitting_of.Goals as goal

pub returns-in_err-terminals-clause-none : goal.returns-in_err-terminals-clause-none
returns-in_err-terminals-clause-none c = λ none other f has. c.in_err-terminals.ensures.none refl f.terminals has.0
