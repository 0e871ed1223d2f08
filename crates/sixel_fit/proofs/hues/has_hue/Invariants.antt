use Rattle.std.proofs.Common.{◌≡◌, ◌<◌, ℕ, None, false, get_or}
use Rattle.sixel_fit.specs.Rows.{is_hue}
use Rattle.sixel_fit.proofs.hues.has_hue.Given as goal

abbrev pub invariant-loop-register : goal.invariant-loop-register
invariant-loop-register l = (k : ℕ) → k < l.register → is_hue (get_or l.palette k None) ≡ false
