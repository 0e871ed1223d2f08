use Rattle.std.proofs.Common.{◌≡◌, ◌*◌, replicate, vec_len}
use Rattle.sixel_plane.specs.declared.lanes.TheConstants.{ZEROS}
use Rattle.sixel_plane.proofs.lanes.zeros.Given as goal

abbrev pub invariant-loop-piece : goal.invariant-loop-piece
invariant-loop-piece l =
    (l.bytes.items ≡ replicate (l.piece * ZEROS) 0) × (vec_len l.bytes ≡ l.piece * ZEROS)
