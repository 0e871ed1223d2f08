use Rattle.std.proofs.Common.{◌≡◌, map}
use Rattle.std.specs.List.{range_with_len}
use Rattle.sixel_mlterm.specs.Settings.{mlterm_start}
use Rattle.sixel_mlterm.proofs.settings.mlterm_colours.Given as goal

abbrev pub invariant-loop-register : goal.invariant-loop-register
invariant-loop-register l = l.colours.items ≡ map (mlterm_start l.fn.background) (range_with_len 0 l.register)
