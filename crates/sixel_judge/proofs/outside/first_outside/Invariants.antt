use Rattle.std.proofs.Common.{◌≡◌, ℕ, ◌+◌, ◌*◌, ◌<◌, None}
use Rattle.std.specs.Int.{bit_at}
use Rattle.sixel_judge.specs.Outside.{first_column}
use Rattle.sixel_judge.specs.Verdicts.{capped}
use Rattle.sixel_judge.proofs.outside.first_outside.Given as goal

abbrev pub invariant-loop-bit : goal.invariant-loop-bit
invariant-loop-bit l = (j : ℕ) → j < l.bit → bit_at l.bits j ≡ 1
    → first_column l.column l.count (capped (6 * l.band + j)) l.width l.height ≡ None
