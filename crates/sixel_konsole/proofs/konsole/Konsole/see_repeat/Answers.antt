use Rattle.std.proofs.Common.{◌∙◌, ◌&&◌, Bool, ap, refl, true}
use Rattle.sixel_grammar.specs.declared.command.Command.TheVariants.{Repeat}
use Rattle.sixel_grammar.specs.declared.command.Event.TheVariants.{Step}
use Rattle.sixel_konsole.proofs.KonsoleLemmas.{stays_push}
use Rattle.sixel_konsole.proofs.konsole.Konsole.see_repeat.Goals as goal

pub returns-else-not-self : goal.returns-else-not-self
returns-else-not-self c = λ before s.
    stays_push before (Step (Repeat c.args.count c.args.bits)) (ap (λ (b : Bool). b && true) c.if-not-self.false ∙ refl) s
