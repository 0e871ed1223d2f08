use Rattle.std.proofs.Common.{◌+◌, ◌-◌, ◌≤◌, length}
use Rattle.sixel_mend.specs.Numbering.{AreAll}
use Rattle.sixel_mend.proofs.numbering.end_of_run.Given as goal

abbrev pub invariant-loop-end : goal.invariant-loop-end
invariant-loop-end l = (l.at ≤ l.end) × (l.end ≤ length l.pixels) × AreAll l.pixels l.at l.end l.pixel

abbrev pub decreases-loop-end : goal.decreases-loop-end
decreases-loop-end l = length l.pixels + 1 - l.end

abbrev pub invariant-loop-end-2 : goal.invariant-loop-end-2
invariant-loop-end-2 l = (l.at ≤ l.end) × (l.end ≤ length l.pixels) × AreAll l.pixels l.at l.end l.pixel

abbrev pub decreases-loop-end-2 : goal.decreases-loop-end-2
decreases-loop-end-2 l = length l.pixels - l.end
