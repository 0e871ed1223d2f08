use Rattle.std.proofs.Common.{◌≡◌, true, false, refl, sym, ◌∙◌}
use Rattle.std.proofs.lemmas.Bool.{eq-eqb, leb-false, leb-true, ne_eqb}
use Rattle.sixel_encode.specs.Columns.{is_in_row}
use Rattle.sixel_encode.proofs.AddedLemmas.{row_missing, row_there, spells_more, spells_same}
use Rattle.sixel_encode.proofs.rows.column_sixel.Goals as goal
use Rattle.sixel_encode.proofs.rows.column_sixel.Goals.{then-is_there+then-rows-start, else-is_there}
use Rattle.sixel_encode.proofs.rows.column_sixel.Goals.{else-is_there-via-then-is_there+else-rows-start}
use Rattle.sixel_encode.proofs.rows.column_sixel.Goals.{else-is_there-via-else-is_there}

pub loop-row-preserved : goal.loop-row-preserved
loop-row-preserved c =
    let rows = c.args.rows.now in
    let width = c.args.width in
    let register = c.args.register in
    let x = c.args.x in
    let row = c.loop-row.row in
    let has = is_in_row rows width register x in
    elim c.if-is_there.branch [
      | then-is_there+then-rows-start w ↦
          rw w.sixel-is
          (spells_more has row c.loop-row.sixel _ true c.loop-row-test.true
          (row_there rows width register x row true (leb-true _ _ (sym c.is_there.ensures ∙ w.if-is_there.true))
          (eq-eqb _ _ w.if-rows-start.true))
          refl c.loop-row.invariant)
      | else-is_there w ↦
          let gone : has row ≡ false = elim w.else-is_there.branch [
            | else-is_there-via-then-is_there+else-rows-start v ↦
                row_there rows width register x row false (leb-true _ _ (sym c.is_there.ensures ∙ v.if-is_there.true))
                (ne_eqb _ _ v.if-rows-start.false)
            | else-is_there-via-else-is_there v ↦
                row_missing rows width register x row (leb-false _ _ (sym c.is_there.ensures ∙ v.if-is_there.false))
          ] in
          rw w.sixel-is (spells_same has row c.loop-row.sixel gone c.loop-row.invariant)
    ]
