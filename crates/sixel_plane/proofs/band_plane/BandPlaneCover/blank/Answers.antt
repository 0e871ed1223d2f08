use Rattle.std.proofs.Common.{rules}
use Rattle.sixel_plane.proofs.BandLemmas.{blank_bands}
use Rattle.sixel_plane.proofs.band_plane.BandPlaneCover.blank.Goals as goal

pub returns : goal.returns
returns c =
    blank_bands c.args.width c.args.height c.in_ok-registers.registers.items c.in_ok-coverage.coverage.items
    (search rules) (search rules)
