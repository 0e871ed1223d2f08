use Rattle.std.proofs.Common.{◌≡◌, ◌<◌, ◌-◌, ◌≤◌, List, length}
use Rattle.sixel_terminal.specs.Screens.{colours_in}
use Rattle.sixel_terminal.specs.declared.pixel.Ink.{Ink}
use Rattle.sixel_terminal.specs.Standing.{AreInksBelow, fixed_below}
use Rattle.sixel_terminal.proofs.fixing.fix_alike.Given as goal

abbrev pub invariant-loop-pixel : goal.invariant-loop-pixel
invariant-loop-pixel l =
    ((initial : List Ink) → l.fn.pixels ≡ fixed_below (colours_in l.table) l.fn.under l.fn.at initial
    → l.pixels ≡ fixed_below (colours_in l.table) l.fn.under l.done initial)
    × (l.fn.at < l.done)
    × (l.done ≤ length l.pixels)
    × (length l.pixels ≡ length l.fn.pixels)
    × AreInksBelow (length (colours_in l.table)) l.pixels

abbrev pub decreases-loop-pixel : goal.decreases-loop-pixel
decreases-loop-pixel l = length l.pixels - l.done
