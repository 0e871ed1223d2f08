use Rattle.std.proofs.Common.{◌*◌, ◌+◌, arith}
use Rattle.std.specs.Int.Bits.{bit_or}
use Rattle.sixel_plane.specs.Stretches.{sixel_of}
use Rattle.sixel_plane.proofs.StretchLemmas.{data_of, group_more, no_columns, no_groups}
use Rattle.sixel_plane.proofs.stretch.paint_each_group.Goals as goal

pub loop-group-init : goal.loop-group-init
loop-group-init c = (
  no_groups c.args.width c.args.start c.args.register (sixel_of c.args.bytes.now c.args.count) c.args.registers.now,
  no_columns c.args.covered (λ j b. bit_or b (sixel_of c.args.bytes.now c.args.count j)) c.args.coverage.now,
)

pub sixels_at-sixels-requires-clause-sixels : goal.sixels_at-sixels-requires-clause-sixels
sixels_at-sixels-requires-clause-sixels c = λ j lt.
    data_of c.args.bytes.now c.args.count (c.loop-group.group * 16) c.min-few.result j c.requires.sixels
    (omega (arith, c.min-few.ensures)) lt

pub loop-group-preserved : goal.loop-group-preserved
loop-group-preserved c =
    group_more c.args.width c.args.start c.args.covered (c.loop-group.group * 16) ((c.loop-group.group + 1) * 16)
    c.args.register c.args.count c.min-few.result c.args.bytes.now c.sixels_at-sixels.result
    c.args.registers.now c.loop-group.registers c.paint_rows.new.registers
    c.args.coverage.now c.loop-group.coverage c.cover_columns.new.coverage (omega arith)
    (omega (arith, c.min-few.ensures)) (λ lt. omega (arith, c.min-few.ensures)) c.sixels_at-sixels.ensures
    c.loop-group.invariant c.paint_rows.ensures c.cover_columns.ensures
