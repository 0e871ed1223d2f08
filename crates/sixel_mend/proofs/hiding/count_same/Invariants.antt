use Rattle.std.proofs.Common.{◌≡◌, ◌≤◌, map, take}
use Rattle.std.specs.Prelude.{count_by}
use Rattle.sixel_model.specs.Colours.{is_same}
use Rattle.sixel_terminal.specs.Screens.{colour_in_ink}
use Rattle.sixel_mend.proofs.hiding.count_same.Given as goal

abbrev pub invariant-loop-other : goal.invariant-loop-other
invariant-loop-other l =
    (l.count ≡ count_by (is_same (colour_in_ink l.pixel)) (take l.other-index (map colour_in_ink l.pixels)))
    × (l.count ≤ l.other-index)
