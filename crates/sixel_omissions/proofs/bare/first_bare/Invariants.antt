use Rattle.std.proofs.Common.{◌≡◌, ◌<◌, ◌+◌, ℕ, false}
use Rattle.sixel_omissions.specs.Omissions.{is_bare_at}
use Rattle.sixel_omissions.proofs.bare.first_bare.Given as goal

abbrev pub invariant-loop-at : goal.invariant-loop-at
invariant-loop-at l = (i : ℕ) → i + 1 < l.at → is_bare_at l.bytes i ≡ false
