use Rattle.std.proofs.Common.{◌≡◌, map}
use Rattle.std.specs.List.{range_with_len}
use Rattle.sixel_konsole.specs.Settings.{konsole_start}
use Rattle.sixel_konsole.proofs.settings.konsole_colours.Given as goal

abbrev pub invariant-loop-register : goal.invariant-loop-register
invariant-loop-register l = l.colours.items ≡ map konsole_start (range_with_len 0 l.register)
