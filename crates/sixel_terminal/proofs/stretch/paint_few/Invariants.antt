use Rattle.sixel_terminal.specs.Stretches.{IsStretchPainted}
use Rattle.sixel_terminal.proofs.stretch.paint_few.Given as goal

abbrev pub invariant-loop-bit : goal.invariant-loop-bit
invariant-loop-bit l = IsStretchPainted l.bit l.width l.left l.top l.bytes l.ink l.initial.pixels l.pixels
