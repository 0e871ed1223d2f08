use Rattle.sixel_terminal.specs.Screens.{colours_in}
use Rattle.sixel_terminal.proofs.FixLemmas.{four_bound}
use Rattle.sixel_terminal.proofs.fixing.fix_four.Goals as goal

pub returns-clause-fixed : goal.returns-clause-fixed
returns-clause-fixed c = λ under initial are.
    four_bound (colours_in c.args.table.now) under initial c.args.pixels.now _ _ _ _ c.args.at c.requires.room
    c.requires.bound are c.fix_bound.ensures c.fix_bound-2.ensures c.fix_bound-3.ensures c.fix_bound-4.ensures
