use Rattle.std.proofs.Common.{◌≡◌, ◌==◌, ℕ, ◌+◌, ◌*◌, ◌%◌, ◌^◌, Bool, get_or, length, refl, ap, arith}
use Rattle.std.proofs.lemmas.Simd.{get_or-replicate}
use Rattle.sixel_encode.specs.Columns.{is_in_row}
use Rattle.sixel_encode.proofs.AddedLemmas.{row_there, spells_more}
use Rattle.sixel_encode.proofs.RowsLemmas.{row_inside}
use Rattle.sixel_encode.proofs.rows.whole_sixels.Goals as goal

pub loop-row-init : goal.loop-row-init
loop-row-init c = record {
  long = refl;
  spelled = λ j lt. (get_or-replicate 32 j 63 0 lt, omega arith);
}

pub loop-row-preserved : goal.loop-row-preserved
loop-row-preserved c =
    let rows = c.args.rows.now in
    let width = c.args.width in
    let register = c.args.register in
    let row = c.loop-row.row in
    record {
      long = c.with_row-group.ensures.long;
      spelled = λ j lt.
          let x = c.args.at + j in
          let at : row * width + c.args.at + j ≡ row * width + x = omega arith in
          let has = is_in_row rows width register x in
          let own : Bool = get_or rows (row * width + x) 0 == register in
          let is : has row ≡ own =
          row_there rows width register x row own
          (row_inside row width (length rows) c.loop-row-test.true c.requires.whole) refl in
          let added = c.with_row-group.ensures.added j lt in
          rw (rw at at added)
          (spells_more has row (get_or c.loop-row.group j 0) _ own c.loop-row-test.true is
          (ap (λ (k : ℕ). 1 * 2 ^ k % 256) (omega arith)) (c.loop-row.invariant.spelled j lt));
    }

pub returns-clause-bits : goal.returns-clause-bits
returns-clause-bits c = λ j lt.
    let done : c.loop-row.row ≡ 6 = omega arith in
    let spelled = c.loop-row.invariant.spelled j lt in
    (rw done at spelled).0
