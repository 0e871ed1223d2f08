use Rattle.std.proofs.Common.{◌≡◌, ◌∙◌, ◌+◌, ap, refl, subst, sym}
use Rattle.sixel_grammar.specs.declared.command.Event.TheVariants.{Step}
use Rattle.sixel_emulator_rules.specs.Counts.{IsCalmBefore}
use Rattle.sixel_emulator_rules.specs.declared.asking.Asking.{Asking}
use Rattle.sixel_emulator_rules.specs.declared.notes.Notes.{Notes}
use Rattle.sixel_emulator_rules.proofs.TakingLemmas.{not_some}
use Rattle.std.proofs.lemmas.Bool.{ltb-true}
use Rattle.sixel_grammar.specs.declared.command.Command.TheVariants.{Repeat}
use Rattle.sixel_emulator_rules.specs.Notes.{passed}
use Rattle.sixel_emulator_rules.proofs.QuietLemmas.{quiet_repeat}
use Rattle.sixel_emulator_rules.proofs.SettledLemmas.{notes_repeat, taken_quietly}
use Rattle.sixel_emulator_rules.proofs.asking.Asking.push_repeat.Goals as goal

pub returns-then-is_calm : goal.returns-then-is_calm
returns-then-is_calm c =
    let a : Asking = c.args.self.now in
    let is : c.pass.new.self ≡ passed a.notes c.args.count = c.pass.ensures ∙ ap (passed a.notes) c.from.ensures in
    let low = ltb-true _ _ (sym c.is_calm.ensures ∙ c.if-is_calm.true) in (
      refl,
      λ seen h.
          taken_quietly a (record a { notes = c.pass.new.self }) (passed a.notes c.args.count) seen c.args.place
          (Step (Repeat c.args.count c.args.bits))
          (not_some a.finding (sym c.is_some.ensures ∙ c.if-is_some.false)) refl refl is
          (quiet_repeat a.terminals a.notes c.args.count c.args.bits (h.1 (a.notes.column + c.args.count) low))
          (λ before s. notes_repeat a.notes before c.args.count c.args.bits s)
          (subst (λ (m : Notes). IsCalmBefore a.terminals m a.calm) (sym is) h.1) h,
    )
