use Rattle.std.proofs.Common.{◌≡◌, ◌++◌, List, take}
use Rattle.sixel_grammar.specs.Stretches.{sixels_from}
use Rattle.sixel_grammar.specs.declared.command.Placed.{Placed}
use Rattle.sixel_emulator_rules.specs.Asking.{HasFound}
use Rattle.sixel_emulator_rules.proofs.asking.Asking.push_each.Given as goal

abbrev pub invariant-loop-index : goal.invariant-loop-index
invariant-loop-index l =
    (l.self.terminals ≡ l.fn.self.terminals)
    × ((seen : List Placed) → HasFound l.fn.self seen
    → HasFound l.self (seen ++ sixels_from l.place (take l.index l.stretch)))
