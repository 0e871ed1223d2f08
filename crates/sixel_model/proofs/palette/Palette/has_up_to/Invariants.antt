use Rattle.std.proofs.Common.{◌≡◌, ◌<◌, ℕ, is_some, true}
use Rattle.sixel_model.specs.Colours.{palette_at}
use Rattle.sixel_model.proofs.palette.Palette.has_up_to.Given as goal

abbrev pub invariant-loop-other : goal.invariant-loop-other
invariant-loop-other l = (r : ℕ) → r < l.other → is_some (palette_at l.self r) ≡ true
