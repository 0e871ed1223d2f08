use Rattle.std.proofs.Common.{◌≡◌, List, length}
use Rattle.sixel_terminal.specs.Screens.{colours_in}
use Rattle.sixel_terminal.specs.declared.pixel.Ink.{Ink}
use Rattle.sixel_terminal.specs.Standing.{AreInksBelow, fixed_below}
use Rattle.sixel_terminal.proofs.fixing.fix_each.Given as goal

abbrev pub invariant-loop-index : goal.invariant-loop-index
invariant-loop-index l =
    ((initial : List Ink) → l.fn.pixels ≡ fixed_below (colours_in l.table) l.under l.fn.from initial
    → l.pixels ≡ fixed_below (colours_in l.table) l.under l.index initial)
    × AreInksBelow (length (colours_in l.table)) l.pixels
    × (length l.pixels ≡ length l.fn.pixels)
