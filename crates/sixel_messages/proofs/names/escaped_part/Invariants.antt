use Rattle.std.proofs.Common.{◌≡◌, ◌≤◌, ◌*◌, take}
use Rattle.std.specs.Prelude.{length}
use Rattle.json.specs.Print.{escape}
use Rattle.sixel_messages.proofs.names.escaped_part.Given as goal

abbrev pub invariant-loop-byte : goal.invariant-loop-byte
invariant-loop-byte l =
    (l.text.items ≡ escape (take l.byte-index l.part)) × (length l.text.items ≤ 6 * l.byte-index)
