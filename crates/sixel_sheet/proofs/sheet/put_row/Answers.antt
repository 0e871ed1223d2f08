use Rattle.std.proofs.Common.{◌++◌, refl}
use Rattle.std.proofs.lemmas.Result.{err_from_is_err_and}
use Rattle.sixel_io.proofs.SinkLemmas.{PutThrough, through-cut, through-next, through-stopped, through-then}
use Rattle.sixel_named_terminals.specs.declared.named.Named.TheVariants.{XTerm, MlTerm, Foot, Konsole}
use Rattle.sixel_sheet.proofs.SheetLemmas.{has_row, part_1, part_2, part_3, part_4, row_from_1, row_from_2, row_from_3}
use Rattle.sixel_sheet.proofs.sheet.put_row.Goals as goal

pub put_view-requires-clause-sides : goal.put_view-requires-clause-sides
put_view-requires-clause-sides g c = has_row c.args.views.now XTerm _ c.args.row refl c.requires.sides c.requires.row

pub put_next-requires-clause-sides : goal.put_next-requires-clause-sides
put_next-requires-clause-sides g c = has_row c.args.views.now MlTerm _ c.args.row refl c.requires.sides c.requires.row

pub put_next-requires-2-clause-sides : goal.put_next-requires-2-clause-sides
put_next-requires-2-clause-sides g c = has_row c.args.views.now Foot _ c.args.row refl c.requires.sides c.requires.row

pub put_next-requires-3-clause-sides : goal.put_next-requires-3-clause-sides
put_next-requires-3-clause-sides g c =
    has_row c.args.views.now Konsole _ c.args.row refl c.requires.sides c.requires.row

pub returns-in_err-put_view : goal.returns-in_err-put_view
returns-in_err-put_view g c =
    let v = c.args.views.now in
    let y = c.args.row in
    let failed = err_from_is_err_and c.from_residual.result c.from_residual.ensures.1 in
    rw failed.1
    (through-cut (part_2 v y ++ (part_3 v y ++ part_4 v y)) (row_from_1 v y) c.in_err-put_view.ensures)

pub returns-in_err-put_next : goal.returns-in_err-put_next
returns-in_err-put_next g c =
    let v = c.args.views.now in
    let y = c.args.row in
    let failed = err_from_is_err_and c.from_residual-in_err-put_next.result c.from_residual-in_err-put_next.ensures.1 in
    rw failed.1
    (through-stopped (part_3 v y ++ part_4 v y) (row_from_2 v y) c.in_ok-put_view.ensures c.in_err-put_next.ensures)

pub returns-in_err-put_next-2 : goal.returns-in_err-put_next-2
returns-in_err-put_next-2 g c =
    let v = c.args.views.now in
    let y = c.args.row in
    let failed = err_from_is_err_and c.from_residual-in_err-put_next-2.result
    c.from_residual-in_err-put_next-2.ensures.1 in
    let two : PutThrough _ _ _ _ (part_1 v y ++ part_2 v y) =
    through-next refl c.in_ok-put_view.ensures c.in_ok-put_next.ensures in
    rw failed.1 (through-stopped (part_4 v y) (row_from_3 v y) two c.in_err-put_next-2.ensures)

pub returns : goal.returns
returns g c =
    let v = c.args.views.now in
    let y = c.args.row in
    let two : PutThrough _ _ _ _ (part_1 v y ++ part_2 v y) =
    through-next refl c.in_ok-put_view.ensures c.in_ok-put_next.ensures in
    let three : PutThrough _ _ _ _ ((part_1 v y ++ part_2 v y) ++ part_3 v y) =
    through-next refl two c.in_ok-put_next-2.ensures in
    through-then c.put_next-3.result (row_from_3 v y) three c.put_next-3.ensures
