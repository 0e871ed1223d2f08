use Rattle.std.proofs.Common.{◌≡◌, map}
use Rattle.std.specs.List.{range_with_len}
use Rattle.sixel_xterm.specs.Settings.{xterm_start}
use Rattle.sixel_xterm.proofs.settings.xterm_colours.Given as goal

abbrev pub invariant-loop-register : goal.invariant-loop-register
invariant-loop-register l = l.colours.items ≡ map xterm_start (range_with_len 0 l.register)
