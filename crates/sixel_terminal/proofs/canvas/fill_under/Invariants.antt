use Rattle.sixel_terminal.specs.Canvases.{laid_under}
use Rattle.sixel_terminal.proofs.CanvasLemmas.{IsFilledBelow}
use Rattle.sixel_terminal.proofs.canvas.fill_under.Given as goal

abbrev pub invariant-loop-row : goal.invariant-loop-row
invariant-loop-row l = IsFilledBelow l.row l.width l.columns l.fn.rows (laid_under l.ink) l.initial.inks l.inks
