use Rattle.std.proofs.Common.{◌+◌, ◌*◌, ◌<◌, arith}
use Rattle.std.proofs.lemmas.Nat.{row_fits_turned}
use Rattle.sixel_plane.proofs.band_plane.fill_run.Goals as goal

pub fill_column-requires-clause-rows : goal.fill_column-requires-clause-rows
fill_column-requires-clause-rows c =
    let last : 6 * c.args.band + 5 < c.args.height = omega (arith, c.if-band-height.true) in
    omega (
      arith,
      c.requires.pixels,
      row_fits_turned (6 * c.args.band + 5) c.args.width c.args.width c.args.height
          last (omega arith),
    )
