use Rattle.std.proofs.Common.{◌≡◌, ◌≤◌, ◌-◌, ◌++◌, List, length, take}
use Rattle.sixel_grammar.specs.declared.command.Event.{Event}
use Rattle.sixel_grammar.specs.declared.command.Placed.{Placed}
use Rattle.sixel_grammar.specs.Stretches.{sixels_from}
use Rattle.sixel_emulator.specs.Modelled.{HasFollowed}
use Rattle.sixel_emulator.proofs.modelled.Modelled.push_each.Given as goal

abbrev pub invariant-loop-taken : goal.invariant-loop-taken
invariant-loop-taken g l =
    (l.taken ≤ length l.bytes)
    × (l.self.progress.drawing.terminal ≡ l.fn.self.progress.drawing.terminal)
    × ((opening : List Event) (before : List Placed)
    → HasFollowed g.R.Reading.model g.R.Reading.has_seen l.fn.self opening before
    → HasFollowed g.R.Reading.model g.R.Reading.has_seen l.self opening
    (before ++ sixels_from l.place (take l.taken l.bytes)))

abbrev pub decreases-loop-taken : goal.decreases-loop-taken
decreases-loop-taken g l = length l.bytes - l.taken
