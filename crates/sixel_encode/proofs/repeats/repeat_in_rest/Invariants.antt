use Rattle.sixel_encode.specs.Columns.{NoFour}
use Rattle.sixel_encode.proofs.repeats.repeat_in_rest.Given as goal

abbrev pub invariant-loop-start : goal.invariant-loop-start
invariant-loop-start l = NoFour l.from l.start l.sixels
