use Rattle.std.proofs.Common.{◌≡◌, ◌<◌, ℕ, length}
use Rattle.sixel_encode.specs.Heads.{HasHead}
use Rattle.sixel_encode.proofs.heads.Heads.new.Given as goal

abbrev pub invariant-loop-count : goal.invariant-loop-count
invariant-loop-count l = record {
  long : length l.texts ≡ 100;
  heads : (k : ℕ) → k < l.count → HasHead l.texts k;
}
