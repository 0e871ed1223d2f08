use Rattle.std.proofs.Common.{arith, subst}
use Rattle.sixel_omissions.specs.Rasters.{IsSeen}
use Rattle.sixel_omissions.proofs.RasterLemmas.{first_stays, open_fits, seen_on}
use Rattle.sixel_omissions.proofs.raster.FirstRaster.seen_with.Goals as goal

pub read_numbers-requires : goal.read_numbers-requires
read_numbers-requires c =
    let h = c.requires.seen.1 in
    omega (arith, open_fits (subst (IsSeen c.requires.seen.0) c.in-Open.is h.seen_is), h.read_is, c.requires.room)

pub returns-in-Complete : goal.returns-in-Complete
returns-in-Complete c = λ before h.
    first_stays before c.args.bytes.now c.in-Complete.raster (subst (IsSeen before) c.in-Complete.is h.seen_is)

pub returns-in-Open : goal.returns-in-Open
returns-in-Open c = λ before h.
    seen_on c.in-Open.raster before c.args.bytes.now c.read_numbers.result
    (subst (IsSeen before) c.in-Open.is h.seen_is) c.read_numbers.ensures
