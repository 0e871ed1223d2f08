use Rattle.std.proofs.Common.{◌∙◌, sym}
use Rattle.sixel_konsole.proofs.SettingLemmas.{konsole_without_fault}
use Rattle.sixel_konsole.proofs.settings.konsole_terminal.Goals as goal

pub unreachable-requires : goal.unreachable-requires
unreachable-requires c =
    let none =
    konsole_without_fault c.args.background c.args.tall c.args.width c.args.height c.requires.tall c.requires.sides in
    let some = rw (c.konsole_choices.ensures, c.in_ok-colours.ensures) at c.in-Err.ensures.reason in
    let bad = sym none ∙ some in
    cc
