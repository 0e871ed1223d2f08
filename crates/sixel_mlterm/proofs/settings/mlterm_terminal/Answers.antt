use Rattle.std.proofs.Common.{◌∙◌, sym}
use Rattle.sixel_mlterm.proofs.SettingLemmas.{mlterm_without_fault}
use Rattle.sixel_mlterm.proofs.settings.mlterm_terminal.Goals as goal

pub unreachable-requires : goal.unreachable-requires
unreachable-requires c =
    let none = mlterm_without_fault c.args.background c.args.width c.args.height c.requires in
    let some = rw (c.mlterm_choices.ensures, c.in_ok-colours.ensures) at c.in-Err.ensures.reason in
    let bad = sym none ∙ some in
    cc
