use Rattle.sixel_konsole.proofs.KonsoleLemmas.{settled_over}
use Rattle.sixel_konsole.proofs.konsole.Konsole.see_sixels.Goals as goal

pub returns-else-not-self : goal.returns-else-not-self
returns-else-not-self c = λ before bytes some s. settled_over before bytes c.if-not-self.false s
