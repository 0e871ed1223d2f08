use Rattle.sixel_terminal.specs.Stretches.{IsRowPainted}
use Rattle.sixel_terminal.proofs.stretch.paint_row.Given as goal

abbrev pub invariant-loop-index : goal.invariant-loop-index
invariant-loop-index l = IsRowPainted l.index l.bit l.bytes l.ink l.initial.row l.row
