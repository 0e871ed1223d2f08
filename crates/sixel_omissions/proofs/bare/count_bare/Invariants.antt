use Rattle.std.proofs.Common.{◌≡◌, ◌-◌, ◌≤◌}
use Rattle.std.specs.Prelude.{filter, length}
use Rattle.std.specs.List.{range_with_len}
use Rattle.sixel_omissions.specs.Omissions.{is_bare_at}
use Rattle.sixel_omissions.proofs.bare.count_bare.Given as goal

abbrev pub invariant-loop-at : goal.invariant-loop-at
invariant-loop-at l =
    (l.count ≡ length (filter (is_bare_at l.bytes) (range_with_len 0 (l.at - 1)))) × (l.count ≤ l.at)
    × (length l.bytes ≤ 1 → l.at ≡ 1)
