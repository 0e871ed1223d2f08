use Rattle.std.proofs.Common.{◌≡◌, map}
use Rattle.std.specs.List.{range_with_len}
use Rattle.sixel_mend.specs.Screens.{starting_colour}
use Rattle.sixel_mend.proofs.terminal.starting_colours.Given as goal

abbrev pub invariant-loop-register : goal.invariant-loop-register
invariant-loop-register l = l.colours.items ≡ map starting_colour (range_with_len 0 l.register)
