use Rattle.std.proofs.Common.{ℕ, ◌<◌, ◌≤◌}
use Rattle.std.specs.Prelude.{slice_index}
use Rattle.sixel_mend.proofs.extent.greatest.Given as goal

abbrev pub invariant-loop-byte : goal.invariant-loop-byte
invariant-loop-byte l = record {
  most : (k : ℕ) → k < l.byte-index → slice_index l.bytes k ≤ l.greatest;
  least : 63 ≤ l.greatest;
  sixel : l.greatest ≤ 126;
}
