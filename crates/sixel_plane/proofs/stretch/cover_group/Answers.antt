use Rattle.std.proofs.Common.{◌+◌, arith}
use Rattle.sixel_plane.proofs.CoverLemmas.{cover_alone}
use Rattle.sixel_plane.proofs.stretch.cover_group.Goals as goal

pub sixels_at-sixels-requires-clause-sixels : goal.sixels_at-sixels-requires-clause-sixels
sixels_at-sixels-requires-clause-sixels c = λ j lt.
    c.requires.sixels (0 + j) (omega (arith, lt))

pub returns : goal.returns
returns c =
    let covered = cover_alone c.args.covered c.args.count c.args.bytes.now c.sixels_at-sixels.result
    c.args.coverage.now c.cover_columns.new.coverage c.requires.few c.sixels_at-sixels.ensures
    c.cover_columns.ensures in record { covered = (16, c.requires.few, covered) }
