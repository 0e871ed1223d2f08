use Rattle.std.proofs.Common.{◌≡◌, ◌<◌, ◌+◌, ◌*◌, ℕ}
use Rattle.std.specs.Int.{bit_at}
use Rattle.sixel_picture_tests.proofs.planes.rows_fit.Given as goal

abbrev pub invariant-loop-bit : goal.invariant-loop-bit
invariant-loop-bit l = (k : ℕ) → k < l.bit → bit_at l.bits k ≡ 1 → 6 * l.band + k < l.height
