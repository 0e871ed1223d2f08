use Rattle.std.proofs.Common.{◌*◌, ◌+◌, arith}
use Rattle.std.specs.Int.Bits.{bit_or}
use Rattle.sixel_plane.specs.Stretches.{sixel_of}
use Rattle.sixel_plane.proofs.CoverLemmas.{cover_more}
use Rattle.sixel_plane.proofs.StretchLemmas.{data_of, no_columns}
use Rattle.sixel_plane.proofs.stretch.cover_each_group.Goals as goal

pub loop-group-init : goal.loop-group-init
loop-group-init c =
    no_columns c.args.covered (λ j b. bit_or b (sixel_of c.args.bytes.now c.args.count j)) c.args.coverage.now

pub sixels_at-sixels-requires-clause-sixels : goal.sixels_at-sixels-requires-clause-sixels
sixels_at-sixels-requires-clause-sixels c = λ j lt.
    data_of c.args.bytes.now c.args.count (c.loop-group.group * 16) c.min-left.result j c.requires.sixels
    (omega (arith, c.min-left.ensures)) lt

pub loop-group-preserved : goal.loop-group-preserved
loop-group-preserved c =
    cover_more c.args.covered (c.loop-group.group * 16) ((c.loop-group.group + 1) * 16)
    c.args.count c.min-left.result c.args.bytes.now c.sixels_at-sixels.result
    c.args.coverage.now c.loop-group.coverage c.cover_columns.new.coverage (omega arith)
    (omega (arith, c.min-left.ensures)) (λ lt. omega (arith, c.min-left.ensures)) c.sixels_at-sixels.ensures
    c.loop-group.invariant c.cover_columns.ensures

pub returns : goal.returns
returns c = record { covered = (c.loop-group.group * 16, omega arith, c.loop-group.invariant) }
