use Rattle.std.proofs.Common.{arith}
use Rattle.sixel_plane.proofs.BandLemmas.{bands_fit, whole_painted}
use Rattle.sixel_plane.proofs.coverage.painted_rows.Goals as goal

pub returns-then-common_bits-eq-ALL_ROWS-clause-painted : goal.returns-then-common_bits-eq-ALL_ROWS-clause-painted
returns-then-common_bits-eq-ALL_ROWS-clause-painted c =
    let few = bands_fit c.args.width c.args.height in
    whole_painted c.args.width c.args.height c.common_bits.result c.args.coverage.now c.if-common_bits-eq-ALL_ROWS.true
    (omega (arith, few, c.requires)) c.common_bits.ensures
