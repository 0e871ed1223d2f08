use Rattle.sixel_terminal.proofs.CanvasLemmas.{IsFilledBelow}
use Rattle.sixel_terminal.proofs.canvas.fill.Given as goal

abbrev pub invariant-loop-row : goal.invariant-loop-row
invariant-loop-row l = IsFilledBelow l.row l.width l.columns l.fn.rows (λ old. l.ink) l.initial.inks l.inks
