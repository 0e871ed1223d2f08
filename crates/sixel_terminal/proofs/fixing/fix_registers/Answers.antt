use Rattle.std.proofs.Common.{◌+◌, arith}
use Rattle.sixel_terminal.specs.Screens.{colours_in}
use Rattle.sixel_terminal.proofs.FixLemmas.{moved}
use Rattle.sixel_terminal.proofs.fixing.fix_registers.Goals as goal

pub returns-clause-fixed : goal.returns-clause-fixed
returns-clause-fixed c = λ under initial are.
    let at = c.args.at in
    let colours = (colours_in c.args.table.now) in
    let one = c.fix_four.ensures.fixed under initial are in
    let two = c.fix_four-2.ensures.fixed under initial one in
    let three =
    c.fix_four-3.ensures.fixed under initial (moved colours under initial _ (at + 4 + 4) (at + 8) (omega arith) two) in
    let four =
    c.fix_four-4.ensures.fixed under initial (moved colours under initial _ (at + 8 + 4) (at + 12) (omega arith) three)
    in
    moved colours under initial _ (at + 12 + 4) (at + 16) (omega arith) four
