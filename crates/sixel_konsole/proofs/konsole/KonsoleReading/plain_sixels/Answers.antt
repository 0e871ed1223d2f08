use Rattle.std.proofs.Common.{◌∙◌, sym}
use Rattle.sixel_konsole.proofs.KonsoleLemmas.{konsole_plain}
use Rattle.sixel_konsole.proofs.konsole.KonsoleReading.plain_sixels.Goals as goal

pub returns-else-self : goal.returns-else-self
returns-else-self c = λ before s. konsole_plain before _ (sym s.stuck_is ∙ c.if-self.false)
