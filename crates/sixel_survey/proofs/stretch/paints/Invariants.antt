use Rattle.std.proofs.Common.{◌≡◌, false}
use Rattle.sixel_survey.specs.Stretches.{any_paints}
use Rattle.sixel_survey.proofs.stretch.paints.Given as goal

abbrev pub invariant-loop-byte : goal.invariant-loop-byte
invariant-loop-byte l = any_paints l.stretch l.byte-index ≡ false
