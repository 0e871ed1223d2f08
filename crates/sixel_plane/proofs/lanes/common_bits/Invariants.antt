use Rattle.std.proofs.Common.{◌≡◌, ◌<◌, ℕ, get_or}
use Rattle.std.specs.Int.{bit_at}
use Rattle.sixel_plane.proofs.lanes.common_bits.Given as goal

abbrev pub invariant-loop-byte : goal.invariant-loop-byte
invariant-loop-byte l = (i k : ℕ) → i < l.byte-index → bit_at l.common k ≡ 1 → bit_at (get_or l.bytes i 0) k ≡ 1
