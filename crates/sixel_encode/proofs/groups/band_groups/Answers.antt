use Rattle.std.proofs.Common.{◌≡◌, ◌≤◌, ◌+◌, ◌*◌, arith}
use Rattle.sixel_encode.proofs.GroupLemmas.{rows_groups, rows_more, rows_none, rows_occur, rows_past}
use Rattle.sixel_encode.proofs.groups.band_groups.Goals as goal
use Rattle.sixel_encode.proofs.groups.band_groups.Goals.{then-y-height, else-y-height}

pub loop-row-init : goal.loop-row-init
loop-row-init c = rows_none c.args.picture.now c.args.band

pub loop-row-preserved : goal.loop-row-preserved
loop-row-preserved c = elim c.if-y-height.branch [
  | then-y-height w ↦
      rw w.marks-is (rows_more c.loop-row-test.true (omega (arith, w.if-y-height.true)) w.row.ensures.width
      w.row.ensures.same w.mark_row.ensures c.loop-row.invariant)
  | else-y-height w ↦
      let past : c.args.picture.now.height ≤ 6 * c.args.band + c.loop-row.row = omega (arith, w.if-y-height.false) in
      rw w.marks-is (rows_past past c.loop-row.invariant)
]

pub returns-clause-occurs : goal.returns-clause-occurs
returns-clause-occurs c = λ register small.
    let done : c.loop-row.row ≡ 6 = omega arith in
    let rows = c.loop-row.invariant in
    rows_occur register (rw done at rows)

pub returns-clause-groups : goal.returns-clause-groups
returns-clause-groups c = λ register small.
    let done : c.loop-row.row ≡ 6 = omega arith in
    let rows = c.loop-row.invariant in
    rows_groups register (rw done at rows)
