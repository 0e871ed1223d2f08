use Rattle.std.proofs.Common.{◌∙◌, ap, refl, subst, sym}
use Rattle.sixel_grammar.specs.declared.command.Event.TheVariants.{Step}
use Rattle.sixel_emulator_rules.specs.Counts.{IsCalmBefore}
use Rattle.sixel_emulator_rules.specs.declared.asking.Asking.{Asking}
use Rattle.sixel_emulator_rules.specs.declared.notes.Notes.{Notes}
use Rattle.sixel_emulator_rules.proofs.TakingLemmas.{not_some}
use Rattle.sixel_grammar.specs.declared.command.Command.TheVariants.{NextLine}
use Rattle.sixel_emulator_rules.specs.Notes.{lowered}
use Rattle.sixel_emulator_rules.proofs.QuietLemmas.{quiet_line}
use Rattle.sixel_emulator_rules.proofs.SettledLemmas.{notes_line, taken_quietly}
use Rattle.sixel_emulator_rules.proofs.asking.Asking.push_next_line.Goals as goal

pub returns-then-hangs : goal.returns-then-hangs
returns-then-hangs c =
    let a : Asking = c.args.self.now in
    let kept = c.settle.ensures.kept in
    let terminals = ap (λ (s : Asking). s.terminals) kept in (
      terminals,
      λ seen h.
          taken_quietly a c.settle.new.self (lowered a.notes) seen c.args.place
          (Step NextLine) (not_some a.finding (sym c.is_some.ensures ∙ c.if-is_some.false)) terminals
          (ap (λ (s : Asking). s.finding) kept) (ap (λ (s : Asking). s.notes) kept ∙ c.go_down.ensures)
          (quiet_line a.terminals a.notes c.if-self.false)
          (λ before s. notes_line a.notes before s) c.settle.ensures.calm h,
    )

pub returns-else-hangs : goal.returns-else-hangs
returns-else-hangs c =
    let a : Asking = c.args.self.now in (
      refl,
      λ seen h.
          taken_quietly a (record a { notes = c.go_down.new.self }) (lowered a.notes) seen c.args.place
          (Step NextLine) (not_some a.finding (sym c.is_some.ensures ∙ c.if-is_some.false)) refl refl
          c.go_down.ensures (quiet_line a.terminals a.notes c.if-self.false)
          (λ before s. notes_line a.notes before s)
          (subst (λ (n : Notes). IsCalmBefore a.terminals n a.calm) (sym c.go_down.ensures)
          (c.hangs_on_band-hangs.ensures c.if-hangs.false h.1)) h,
    )
