use Rattle.sixel_differ.specs.Pixels.{AreSameBelow}
use Rattle.sixel_differ.proofs.pixels.first_from.Given as goal

abbrev pub invariant-loop-at : goal.invariant-loop-at
invariant-loop-at l = AreSameBelow l.a l.b l.at
