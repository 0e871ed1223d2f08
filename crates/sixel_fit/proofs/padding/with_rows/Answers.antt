use Rattle.std.proofs.Common.{◌≡◌, ◌∙◌, None, length, subst, sym}
use Rattle.sixel_model.specs.Pictures.{PictureValue, picture_fault, picture_of_parts}
use Rattle.sixel_fit.specs.Rows.{with_rows}
use Rattle.sixel_fit.proofs.RowsLemmas.{rows_are, rows_fit}
use Rattle.sixel_fit.proofs.padding.with_rows.Goals as goal

pub of_parts-requires : goal.of_parts-requires
of_parts-requires c =
    let p = c.args.picture.now in
    let are : picture_of_parts c.width-width.result c.args.height c.set.new.self c.in_ok-registers.registers.items
    ≡ with_rows p c.args.height c.args.pad c.args.register =
    rows_are p c.args.height c.args.pad c.args.register c.width-width.result c.registers.result.now
    c.in_ok-registers.registers.items c.set.new.self c.width-width.ensures.picture c.requires.higher
    c.width-width.ensures.same c.registers.ensures.same c.in_ok-registers.ensures
    (c.set.ensures.value
    ∙ rw (c.copy_of-palette.ensures, c.palette.ensures.same)) in
    subst
    (λ (q : PictureValue). picture_fault (length q.palette) q.width q.height q.palette q.registers ≡ None)
    (sym are)
    (rows_fit p c.args.height c.args.pad c.args.register c.width-width.ensures.picture c.requires.higher
    c.requires.side c.requires.register)

pub returns : goal.returns
returns c =
    let p = c.args.picture.now in
    c.of_parts.ensures
    ∙ rows_are p c.args.height c.args.pad c.args.register c.width-width.result c.registers.result.now
    c.in_ok-registers.registers.items c.set.new.self c.width-width.ensures.picture c.requires.higher
    c.width-width.ensures.same c.registers.ensures.same c.in_ok-registers.ensures
    (c.set.ensures.value
    ∙ rw (c.copy_of-palette.ensures, c.palette.ensures.same))
