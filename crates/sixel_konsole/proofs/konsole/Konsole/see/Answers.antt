use Rattle.std.proofs.Common.{◌∙◌, sym}
use Rattle.sixel_konsole.proofs.KonsoleLemmas.{stays_push}
use Rattle.sixel_konsole.proofs.konsole.Konsole.see.Goals as goal

pub returns-else-not-stays_after : goal.returns-else-not-stays_after
returns-else-not-stays_after c = λ before s.
    stays_push before c.args.event.now (sym c.stays_after.ensures ∙ c.if-not-stays_after.false) s
