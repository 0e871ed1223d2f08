use Rattle.std.proofs.Common.{take}
use Rattle.sixel_grammar.specs.Stretches.{sixels_from}
use Rattle.sixel_emulator_rules.specs.Tallying.{TalliesOn}
use Rattle.sixel_emulator_rules.proofs.tallying.Tallying.push_each.Given as goal

abbrev pub invariant-loop-index : goal.invariant-loop-index
invariant-loop-index l = TalliesOn l.fn.self l.self (sixels_from l.place (take l.index l.stretch))
