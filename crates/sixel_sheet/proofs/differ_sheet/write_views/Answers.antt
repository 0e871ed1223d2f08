use Rattle.std.proofs.Common.{◌≡◌, false, sym, true}
use Rattle.sixel_sheet.specs.Sheets.{are_rgb_views}
use Rattle.sixel_sheet.proofs.ViewedLemmas.{sheet_not_rgb, sheet_unwritten, sheet_written}
use Rattle.sixel_sheet.proofs.differ_sheet.write_views.Goals as goal

pub returns-then-not-are_rgb_views-clause-wrote : goal.returns-then-not-are_rgb_views-clause-wrote
returns-then-not-are_rgb_views-clause-wrote g c = λ background bytes are.
    let rgb : are_rgb_views c.args.views.now ≡ false = sym c.if-not-are_rgb_views.ensures in
    sheet_not_rgb background bytes c.args.views.now _ are rgb

pub returns-in-Ok-clause-wrote : goal.returns-in-Ok-clause-wrote
returns-in-Ok-clause-wrote g c = λ background bytes are.
    let rgb : are_rgb_views c.args.views.now ≡ true = sym c.if-not-are_rgb_views.ensures in
    rw c.differ_status.ensures
    (sheet_written background bytes c.args.views.now c.compare.result _ _ are c.compare.ensures rgb
    c.in-Ok.ensures.taken)

pub returns-in-Err-clause-wrote : goal.returns-in-Err-clause-wrote
returns-in-Err-clause-wrote g c = λ background bytes are.
    let rgb : are_rgb_views c.args.views.now ≡ true = sym c.if-not-are_rgb_views.ensures in
    sheet_unwritten background bytes c.args.views.now _ _ are rgb c.in-Err.ensures.taken
