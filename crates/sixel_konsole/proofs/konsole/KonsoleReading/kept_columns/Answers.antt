use Rattle.std.proofs.Common.{◌∙◌, sym}
use Rattle.sixel_konsole.proofs.KonsoleLemmas.{konsole_cut}
use Rattle.sixel_konsole.proofs.konsole.KonsoleReading.kept_columns.Goals as goal

pub returns-then-self : goal.returns-then-self
returns-then-self c = λ before s. konsole_cut before c.args._zero_columns (sym s.stuck_is ∙ c.if-self.true)
