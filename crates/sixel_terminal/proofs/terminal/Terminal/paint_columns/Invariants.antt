use Rattle.sixel_terminal.proofs.PaintLemmas.{IsInkedBelow}
use Rattle.sixel_terminal.proofs.terminal.Terminal.paint_columns.Given as goal

abbrev pub invariant-loop-bit : goal.invariant-loop-bit
invariant-loop-bit l = IsInkedBelow l.bit l.self l.pen l.count l.bits l.ink l.initial.inks l.inks
