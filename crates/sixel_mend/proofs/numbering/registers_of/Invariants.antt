use Rattle.std.proofs.Common.{◌≡◌, ◌<◌, ◌≤◌, ◌-◌, length, vec_capacity, vec_len}
use Rattle.sixel_mend.specs.Numbering.{AreNumbered}
use Rattle.sixel_mend.proofs.numbering.registers_of.Given as goal

abbrev pub invariant-loop-at : goal.invariant-loop-at
invariant-loop-at l =
    AreNumbered l.numbering.colours l.last l.registers.items l.pixels l.at
    × (length l.numbering.colours.palette ≡ length l.initial.numbering.colours.palette)
    × (vec_len l.registers ≡ l.at)
    × (l.at ≤ length l.pixels)
    × (length l.pixels ≤ vec_capacity l.registers)
    × (0 < l.step)
    × (l.step ≤ 64)

abbrev pub decreases-loop-at : goal.decreases-loop-at
decreases-loop-at l = length l.pixels - l.at
