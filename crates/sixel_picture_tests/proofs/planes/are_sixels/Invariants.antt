use Rattle.std.proofs.Common.{◌≡◌, ◌<◌, ℕ, get_or, true}
use Rattle.sixel_grammar.specs.Bytes.{is_data}
use Rattle.sixel_picture_tests.proofs.planes.are_sixels.Given as goal

abbrev pub invariant-loop-index : goal.invariant-loop-index
invariant-loop-index l = (j : ℕ) → j < l.index → is_data (get_or l.bytes j 0) ≡ true
