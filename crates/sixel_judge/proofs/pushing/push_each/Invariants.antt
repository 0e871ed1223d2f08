use Rattle.std.proofs.Common.{take}
use Rattle.sixel_grammar.specs.Stretches.{sixels_from}
use Rattle.sixel_judge.specs.Stretches.{TakesSixels}
use Rattle.sixel_judge.proofs.pushing.push_each.Given as goal

abbrev pub invariant-loop-index : goal.invariant-loop-index
invariant-loop-index g l = TakesSixels l.fn.checker l.checker (sixels_from l.place (take l.index l.stretch))
