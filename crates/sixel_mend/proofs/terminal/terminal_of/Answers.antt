use Rattle.std.proofs.Common.{◌∙◌, sym}
use Rattle.sixel_mend.proofs.TerminalLemmas.{no_fault}
use Rattle.sixel_mend.proofs.terminal.terminal_of.Goals as goal

pub unreachable-requires : goal.unreachable-requires
unreachable-requires c =
    let none = no_fault c.args.mending.now c.args.width c.args.height c.requires in
    let some = rw (c.choices-choices.ensures, c.in_ok-starting_colours.ensures) at c.in-Err.ensures.reason in
    let bad = sym none ∙ some in
    cc
