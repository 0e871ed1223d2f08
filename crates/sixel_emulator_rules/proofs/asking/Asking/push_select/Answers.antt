use Rattle.std.proofs.Common.{◌∙◌, ap, refl, subst, sym}
use Rattle.sixel_grammar.specs.declared.command.Event.TheVariants.{Step}
use Rattle.sixel_emulator_rules.specs.Counts.{IsCalmBefore}
use Rattle.sixel_emulator_rules.specs.declared.asking.Asking.{Asking}
use Rattle.sixel_emulator_rules.specs.declared.notes.Notes.{Notes}
use Rattle.sixel_emulator_rules.proofs.TakingLemmas.{not_some}
use Rattle.sixel_grammar.specs.declared.command.Command.TheVariants.{Select}
use Rattle.sixel_emulator_rules.specs.Notes.{selecting}
use Rattle.sixel_emulator_rules.proofs.QuietLemmas.{quiet_select}
use Rattle.sixel_emulator_rules.proofs.SettledLemmas.{calm_select, notes_select, taken_quietly}
use Rattle.sixel_emulator_rules.proofs.asking.Asking.push_select.Goals as goal

pub returns-then-self-eq0 : goal.returns-then-self-eq0
returns-then-self-eq0 c =
    let a : Asking = c.args.self.now in
    let kept = c.settle.ensures.kept in
    let terminals = ap (λ (s : Asking). s.terminals) kept in (
      terminals,
      λ seen h.
          taken_quietly a c.settle.new.self (selecting a.notes c.args.register) seen c.args.place
          (Step (Select c.args.register)) (not_some a.finding (sym c.is_some.ensures ∙ c.if-is_some.false)) terminals
          (ap (λ (s : Asking). s.finding) kept) (ap (λ (s : Asking). s.notes) kept ∙ c.select.ensures)
          (quiet_select a.terminals a.notes c.args.register)
          (λ before s. notes_select a.notes before c.args.register s) c.settle.ensures.calm h,
    )

pub returns-else-self-eq0 : goal.returns-else-self-eq0
returns-else-self-eq0 c =
    let a : Asking = c.args.self.now in (
      refl,
      λ seen h.
          taken_quietly a (record a { notes = c.select.new.self }) (selecting a.notes c.args.register) seen c.args.place
          (Step (Select c.args.register)) (not_some a.finding (sym c.is_some.ensures ∙ c.if-is_some.false)) refl refl
          c.select.ensures (quiet_select a.terminals a.notes c.args.register)
          (λ before s. notes_select a.notes before c.args.register s)
          (subst (λ (m : Notes). IsCalmBefore a.terminals m a.calm) (sym c.select.ensures)
          (calm_select a.terminals a.notes c.args.register a.calm h.1)) h,
    )
