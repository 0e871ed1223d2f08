use Rattle.std.proofs.Common.{◌∙◌, sym}
use Rattle.sixel_emulator_rules.specs.Notes.{lowered}
use Rattle.sixel_emulator_rules.proofs.SettledLemmas.{calm_line, calm_nowhere}
use Rattle.sixel_emulator_rules.proofs.asking.Asking.hangs_on_band.Goals as goal

pub returns-then-self-ne0 : goal.returns-then-self-ne0
returns-then-self-ne0 c = λ is calm.
    let a = c.args.self.now in calm_line a.terminals a.notes a.calm (sym c.asks_where.ensures ∙ is) calm

pub returns-else-self-ne0 : goal.returns-else-self-ne0
returns-else-self-ne0 c = λ is calm.
    let a = c.args.self.now in calm_nowhere a.terminals (lowered a.notes) a.calm c.if-self-ne0.false
