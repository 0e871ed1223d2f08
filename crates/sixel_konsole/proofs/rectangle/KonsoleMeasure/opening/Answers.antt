use Rattle.std.proofs.Common.{sym, ap, ◌∙◌, ◌∷◌, []}
use Rattle.sixel_grammar.specs.declared.command.Event.TheVariants.{Step}
use Rattle.sixel_konsole.proofs.KonsoleMeasureLemmas.{opening_none, opening_some}
use Rattle.sixel_konsole.proofs.rectangle.KonsoleMeasure.opening.Goals as goal

pub returns-then-has_begun : goal.returns-then-has_begun
returns-then-has_begun c = λ events s.
    opening_some events s (sym c.has_begun.ensures ∙ c.if-has_begun.true)
    ∙ ap (λ d. Step d ∷ []) (sym c.rectangle.ensures)

pub returns-else-has_begun : goal.returns-else-has_begun
returns-else-has_begun c = λ events s. opening_none events s (sym c.has_begun.ensures ∙ c.if-has_begun.false)
