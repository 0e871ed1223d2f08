use Rattle.std.proofs.Common.{◌≡◌, ◌==◌, ◌+◌, ◌*◌, Bool, get_or, refl, ◌∙◌, arith}
use Rattle.std.proofs.lemmas.Simd.{get_or-replicate}
use Rattle.sixel_encode.specs.Columns.{is_in_row}
use Rattle.sixel_encode.proofs.AddedLemmas.{row_missing, row_there, spells_more, spells_same}
use Rattle.sixel_encode.proofs.rows.last_sixels.Goals as goal
use Rattle.sixel_encode.proofs.rows.last_sixels.Goals.{then-start-width, else-start-width}

pub loop-row-init : goal.loop-row-init
loop-row-init c = record {
  long = refl;
  spelled = λ j lt. (get_or-replicate 32 j _ 0 lt ∙ omega arith, omega arith);
}

pub loop-row-preserved : goal.loop-row-preserved
loop-row-preserved c =
    let rows = c.args.rows.now in
    let width = c.args.width in
    let register = c.args.register in
    let row = c.loop-row.row in
    elim c.if-start-width.branch [
      | then-start-width w ↦
          rw w.sixels-is (record {
            long = w.with_row-sixels.ensures.long;
            spelled = λ j lt.
                let x = c.args.at + j in
                let at : row * width + c.args.at + j ≡ row * width + x = omega arith in
                let has = is_in_row rows width register x in
                let own : Bool = get_or rows (row * width + x) 0 == register in
                let is : has row ≡ own =
                row_there rows width register x row own (omega (arith, w.if-start-width.true)) refl in
                let added = w.with_row-sixels.ensures.added j lt in
                rw (rw at at added)
                (spells_more has row (get_or c.loop-row.sixels j 0) _ own c.loop-row-test.true is refl
                (c.loop-row.invariant.spelled j lt));
          })
      | else-start-width w ↦
          rw w.sixels-is (record {
            long = c.loop-row.invariant.long;
            spelled = λ j lt.
                let x = c.args.at + j in
                spells_same (is_in_row rows width register x) row (get_or c.loop-row.sixels j 0)
                (row_missing rows width register x row (omega (arith, w.if-start-width.false)))
                (c.loop-row.invariant.spelled j lt);
          })
    ]

pub returns-clause-bits : goal.returns-clause-bits
returns-clause-bits c = λ j lt.
    let done : c.loop-row.row ≡ 6 = omega arith in
    let spelled = c.loop-row.invariant.spelled j lt in
    (rw done at spelled).0
