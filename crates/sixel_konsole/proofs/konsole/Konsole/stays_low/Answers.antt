use Rattle.std.proofs.Common.{◌≡◌, ◌∙◌, sym}
use Rattle.std.proofs.lemmas.Bool.{eqb-true}
use Rattle.sixel_konsole.proofs.KonsoleLemmas.{low_stays}
use Rattle.sixel_konsole.proofs.konsole.Konsole.stays_low.Goals as goal

pub returns-then-self : goal.returns-then-self
returns-then-self c = λ one before seen.
    let low : c.tall.result ≡ 1 = eqb-true c.tall.result 1 one in
    low_stays seen c.if-self.true c.in-None.is (sym c.tall.ensures ∙ low)
