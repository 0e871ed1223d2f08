use Rattle.std.proofs.Common.{take}
use Rattle.sixel_terminal.specs.Stretches.{AreJoined}
use Rattle.sixel_terminal.proofs.stretch.joined.Given as goal

abbrev pub invariant-loop-byte : goal.invariant-loop-byte
invariant-loop-byte l = AreJoined l.bits (take l.byte-index l.bytes)
