use Rattle.sixel_plane.proofs.LaneLemmas.{both_bits}
use Rattle.sixel_plane.proofs.lanes.common_bits.Goals as goal

pub loop-byte-preserved : goal.loop-byte-preserved
loop-byte-preserved c = λ i k lt set. both_bits _ _ _ i k c.loop-byte.invariant lt set
