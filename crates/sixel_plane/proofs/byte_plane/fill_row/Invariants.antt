use Rattle.std.proofs.Common.{◌≡◌, ◌&&◌, nat_le, nat_lt, length, if◌then◌else◌, EachIndex, slice_index_or}
use Rattle.sixel_plane.proofs.byte_plane.fill_row.Given as goal

abbrev pub invariant-loop-index : goal.invariant-loop-index
invariant-loop-index g l = record {
  long : length l.items ≡ length l.initial.items;
  filled : (d : _) → EachIndex l.initial.items (λ i. slice_index_or l.items i d
      ≡ (if nat_le l.start i && nat_lt i l.index then l.value else slice_index_or l.initial.items i d));
}
