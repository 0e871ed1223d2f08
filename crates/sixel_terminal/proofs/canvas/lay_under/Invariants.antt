use Rattle.sixel_terminal.proofs.CanvasLemmas.{IsLaidBelow}
use Rattle.sixel_terminal.proofs.canvas.lay_under.Given as goal

abbrev pub invariant-loop-index : goal.invariant-loop-index
invariant-loop-index l = IsLaidBelow l.index l.ink l.initial.row l.row
