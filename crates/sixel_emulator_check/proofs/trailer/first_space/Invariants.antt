use Rattle.std.proofs.Common.{◌≡◌, ◌<◌, ℕ, false}
use Rattle.sixel_emulator_check.specs.Trailer.{is_space_after}
use Rattle.sixel_emulator_check.proofs.trailer.first_space.Given as goal

abbrev pub invariant-loop-at : goal.invariant-loop-at
invariant-loop-at l = (i : ℕ) → i < l.at → is_space_after l.bytes i ≡ false
