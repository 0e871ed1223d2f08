use Rattle.std.proofs.Common.{◌≡◌, ◌-◌, true, length}
use Rattle.sixel_emulator_check.proofs.TrailerLemmas.{is_rest}
use Rattle.sixel_emulator_check.proofs.trailer.filler_from.Given as goal

abbrev pub invariant-loop-back : goal.invariant-loop-back
invariant-loop-back l = is_rest l.bytes (length l.bytes - l.back) ≡ true
