use Rattle.std.proofs.Common.{◌≡◌, ◌≤◌}
use Rattle.sixel_emulator_check.proofs.TrailerLemmas.{count_to}
use Rattle.sixel_emulator_check.proofs.trailer.count_spaces.Given as goal

abbrev pub invariant-loop-at : goal.invariant-loop-at
invariant-loop-at l = (l.count ≡ count_to l.bytes l.at) × (l.count ≤ l.at)
