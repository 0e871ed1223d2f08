use Rattle.std.proofs.Common.{◌*◌, ◌+◌, arith}
use Rattle.std.specs.Int.Bits.{bit_or}
use Rattle.sixel_plane.specs.Stretches.{run_sixel}
use Rattle.sixel_plane.proofs.CoverLemmas.{cover_run_more, run_changed}
use Rattle.sixel_plane.proofs.StretchLemmas.{no_columns}
use Rattle.sixel_plane.proofs.stretch.cover_short_run.Goals as goal

pub loop-group-init : goal.loop-group-init
loop-group-init c =
    no_columns c.args.covered (λ j b. bit_or b (run_sixel c.args.bits c.args.count j)) c.args.coverage.now

pub loop-group-preserved : goal.loop-group-preserved
loop-group-preserved c =
    cover_run_more c.args.covered (c.loop-group.group * 16) ((c.loop-group.group + 1) * 16)
    c.args.count c.min-left.result c.args.bits c.sixels_of_run-sixels.result
    c.args.coverage.now c.loop-group.coverage c.cover_columns.new.coverage (omega arith)
    (omega (arith, c.min-left.ensures)) (λ lt. omega (arith, c.min-left.ensures)) c.sixels_of_run-sixels.ensures
    c.loop-group.invariant c.cover_columns.ensures

pub returns : goal.returns
returns c =
    run_changed c.args.covered c.args.count (c.loop-group.group * 16) c.args.bits c.args.coverage.now
    c.loop-group.coverage (omega arith) c.loop-group.invariant
