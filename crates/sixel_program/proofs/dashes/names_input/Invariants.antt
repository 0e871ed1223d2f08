use Rattle.std.proofs.Common.{◌≡◌, false, map, take}
use Rattle.std.specs.List.{list_any}
use Rattle.std.specs.String.{string_bytes}
use Rattle.sixel_program.specs.Files.{is_dash}
use Rattle.sixel_program.proofs.dashes.names_input.Given as goal

abbrev pub invariant-loop-name : goal.invariant-loop-name
invariant-loop-name l = list_any is_dash (map string_bytes (take l.name-index l.names)) ≡ false
