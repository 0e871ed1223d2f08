use Rattle.std.proofs.Common.{◌≡◌, ◌<◌, ℕ, length}
use Rattle.sixel_list.specs.SixelTexts.{HasTail}
use Rattle.sixel_list.proofs.sixel_line.Tails.new.Given as goal

abbrev pub invariant-loop-bits : goal.invariant-loop-bits
invariant-loop-bits l = record {
  long : length l.text ≡ 1040;
  tails : (k : ℕ) → k < l.bits → HasTail l.text k;
}
