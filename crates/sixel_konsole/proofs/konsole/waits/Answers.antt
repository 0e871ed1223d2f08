use Rattle.std.proofs.Common.{◌∙◌, Option, ap, sym, ℕ}
use Rattle.std.specs.Prelude.{is_some}
use Rattle.sixel_konsole.proofs.KonsoleLemmas.{konsole_alone}
use Rattle.sixel_konsole.proofs.konsole.waits.Goals as goal

pub returns-else-is_some : goal.returns-else-is_some
returns-else-is_some c = λ is before next.
    konsole_alone before c.args.event.now next
    (ap (λ (o : Option ℕ). is_some o) (sym c.named_by.ensures) ∙ (sym c.is_some.ensures ∙ c.if-is_some.false))
    (sym c.is_raster.ensures ∙ is)
