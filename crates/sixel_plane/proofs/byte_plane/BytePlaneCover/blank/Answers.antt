use Rattle.std.proofs.Common.{rules}
use Rattle.sixel_plane.proofs.ByteLemmas.{blank_marks}
use Rattle.sixel_plane.proofs.byte_plane.BytePlaneCover.blank.Goals as goal

pub returns : goal.returns
returns c =
    blank_marks c.args.width c.args.height c.in_ok-registers.registers.items c.in_ok-marks.marks.items
    (search rules) (search rules)
