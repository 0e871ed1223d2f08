use Rattle.std.proofs.Common.{◌≡◌, ◌<◌, ℕ, None, false, get_or, is_none}
use Rattle.sixel_fit.proofs.padding.free_register.Given as goal

abbrev pub invariant-loop-register : goal.invariant-loop-register
invariant-loop-register l = (k : ℕ) → k < l.register → is_none (get_or l.palette k None) ≡ false
