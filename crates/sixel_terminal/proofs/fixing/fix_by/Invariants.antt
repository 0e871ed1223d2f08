use Rattle.std.proofs.Common.{◌≡◌, ◌-◌, ◌≤◌, length}
use Rattle.sixel_terminal.specs.Screens.{colours_in}
use Rattle.sixel_terminal.specs.Standing.{fixed_below}
use Rattle.sixel_terminal.proofs.fixing.fix_by.Given as goal

abbrev pub invariant-loop-done : goal.invariant-loop-done
invariant-loop-done l =
    (l.pixels ≡ fixed_below (colours_in l.table) l.under l.done l.fn.pixels)
    × (l.done ≤ length l.pixels)
    × (length l.pixels ≡ length l.fn.pixels)
    × (l.count ≡ length l.fn.pixels)

abbrev pub decreases-loop-done : goal.decreases-loop-done
decreases-loop-done l = l.count - l.done
