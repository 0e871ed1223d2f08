use Rattle.std.proofs.Common.{◌*◌, ◌+◌, arith}
use Rattle.std.specs.Int.Bits.{bit_or}
use Rattle.sixel_plane.specs.Stretches.{run_sixel}
use Rattle.sixel_plane.proofs.StretchLemmas.{no_columns, no_groups, run_more}
use Rattle.sixel_plane.proofs.stretch.paint_each_run_group.Goals as goal

pub loop-group-init : goal.loop-group-init
loop-group-init c = (
  no_groups c.args.width c.args.start c.args.register (run_sixel c.args.bits c.args.count) c.args.registers.now,
  no_columns c.args.covered (λ j b. bit_or b (run_sixel c.args.bits c.args.count j)) c.args.coverage.now,
)

pub loop-group-preserved : goal.loop-group-preserved
loop-group-preserved c =
    run_more c.args.width c.args.start c.args.covered (c.loop-group.group * 16) ((c.loop-group.group + 1) * 16)
    c.args.register c.args.count c.min-few.result c.args.bits c.sixels_of_run-sixels.result
    c.args.registers.now c.loop-group.registers c.paint_rows.new.registers
    c.args.coverage.now c.loop-group.coverage c.cover_columns.new.coverage (omega arith)
    (omega (arith, c.min-few.ensures)) (λ lt. omega (arith, c.min-few.ensures)) c.sixels_of_run-sixels.ensures
    c.loop-group.invariant c.paint_rows.ensures c.cover_columns.ensures
