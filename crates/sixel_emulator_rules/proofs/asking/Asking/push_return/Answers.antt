use Rattle.std.proofs.Common.{◌∙◌, refl, subst, sym}
use Rattle.sixel_grammar.specs.declared.command.Event.TheVariants.{Step}
use Rattle.sixel_emulator_rules.specs.Counts.{IsCalmBefore}
use Rattle.sixel_emulator_rules.specs.declared.asking.Asking.{Asking}
use Rattle.sixel_emulator_rules.specs.declared.notes.Notes.{Notes}
use Rattle.sixel_emulator_rules.proofs.TakingLemmas.{not_some}
use Rattle.sixel_grammar.specs.declared.command.Command.TheVariants.{CarriageReturn}
use Rattle.sixel_emulator_rules.specs.Notes.{returned}
use Rattle.sixel_emulator_rules.proofs.QuietLemmas.{quiet_return}
use Rattle.sixel_emulator_rules.proofs.SettledLemmas.{notes_return, taken_quietly}
use Rattle.sixel_emulator_rules.proofs.asking.Asking.push_return.Goals as goal

pub returns-else-self : goal.returns-else-self
returns-else-self c =
    let a : Asking = c.args.self.now in (
      refl,
      λ seen h.
          taken_quietly a (record a { notes = c.go_back.new.self }) (returned a.notes) seen c.args.place
          (Step CarriageReturn) (not_some a.finding (sym c.is_some.ensures ∙ c.if-is_some.false)) refl refl
          c.go_back.ensures (quiet_return a.terminals a.notes c.if-self.false)
          (λ before s. notes_return a.notes before s)
          (subst (λ (m : Notes). IsCalmBefore a.terminals m a.calm) (sym c.go_back.ensures) h.1) h,
    )
