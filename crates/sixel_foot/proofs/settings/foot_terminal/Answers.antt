use Rattle.std.proofs.Common.{◌∙◌, sym}
use Rattle.sixel_foot.proofs.SettingLemmas.{foot_without_fault}
use Rattle.sixel_foot.proofs.settings.foot_terminal.Goals as goal

pub unreachable-requires : goal.unreachable-requires
unreachable-requires c =
    let none = foot_without_fault c.args.background c.args.width c.args.height c.requires in
    let some = rw (c.foot_choices.ensures, c.in_ok-colours.ensures) at c.in-Err.ensures.reason in
    let bad = sym none ∙ some in
    cc
