use Rattle.sixel_encode.proofs.PartedLemmas.{parted}
use Rattle.sixel_encode.proofs.RowsLemmas.{rows_are}
use Rattle.sixel_encode.proofs.rows.rows_of.Goals as goal

pub returns : goal.returns
returns c =
    let any = c.width.ensures.picture in
    rw (c.registers.ensures.same, c.width.ensures.same)
    (rows_are c.args.band c.min-first.result c.min-end.result
    (parted any.parts) (rw (← c.height-height.ensures.same) c.min-first.ensures)
    (rw (← c.height-height.ensures.same) c.min-end.ensures))
