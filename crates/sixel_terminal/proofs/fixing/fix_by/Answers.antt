use Rattle.std.proofs.Common.{length}
use Rattle.sixel_terminal.specs.Screens.{colours_in}
use Rattle.sixel_terminal.proofs.FixLemmas.{below_fixed}
use Rattle.sixel_terminal.proofs.fixing.fix_by.Goals as goal

pub fix_block-done-requires-clause-below : goal.fix_block-done-requires-clause-below
fix_block-done-requires-clause-below c =
    below_fixed (length (colours_in c.args.table.now)) (colours_in c.args.table.now) c.args.under c.args.pixels.now
    c.loop-done.pixels c.loop-done.done c.requires.below c.loop-done.invariant.0

pub fix_each-requires-clause-below : goal.fix_each-requires-clause-below
fix_each-requires-clause-below c =
    below_fixed (length (colours_in c.args.table.now)) (colours_in c.args.table.now) c.args.under c.args.pixels.now
    c.loop-done.pixels c.loop-done.done c.requires.below c.loop-done.invariant.0
