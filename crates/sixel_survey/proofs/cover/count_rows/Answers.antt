use Rattle.std.proofs.Common.{◌≡◌, ◌<◌, ◌+◌, ◌∙◌, ℕ, ap, arith}
use Rattle.sixel_model.specs.Grids.{Grid}
use Rattle.sixel_survey.specs.Covering.{blank_cells_in_row}
use Rattle.sixel_survey.proofs.CoverLemmas.{rows_fit, rows_more}
use Rattle.sixel_survey.proofs.cover.count_rows.Goals as goal

-- as many pixels of this row are blank
same_count : (s : Grid) (row y count : ℕ) → count ≡ blank_cells_in_row s row s.width → row ≡ y
    → count ≡ blank_cells_in_row s y s.width
same_count s row y count is same = is ∙ ap (λ (n : ℕ). blank_cells_in_row s n s.width) same

pub overflow_add-count : goal.overflow_add-count
overflow_add-count g c =
    let s = g.P.Cover.grid c.args.plane.now in
    let row = c.blank_in_row-count.ensures in
    let lt : c.loop-y.y < s.height = omega (arith, c.height-y-end.ensures, c.loop-y-test.true) in
    let low : s.height < 4294967296 = omega (arith, c.height-y-end.ensures, c.height-y-end.type_inv) in
    let narrow : s.width < 4294967296 = omega (arith, row.narrow) in
    omega (
      arith,
      (rows_fit c.loop-y.y s.width s.height c.loop-y.count c.blank_in_row-count.result lt narrow low
          c.loop-y.invariant.0 row.few).1,
    )

pub loop-y-preserved : goal.loop-y-preserved
loop-y-preserved g c =
    let s = g.P.Cover.grid c.args.plane.now in
    let row = c.blank_in_row-count.ensures in
    let lt : c.loop-y.y < s.height = omega (arith, c.height-y-end.ensures, c.loop-y-test.true) in
    let low : s.height < 4294967296 = omega (arith, c.height-y-end.ensures, c.height-y-end.type_inv) in
    let narrow : s.width < 4294967296 = omega (arith, row.narrow) in (
      (rows_fit c.loop-y.y s.width s.height c.loop-y.count c.blank_in_row-count.result lt narrow low
          c.loop-y.invariant.0 row.few).0,
      rows_more s c.loop-y.y (c.loop-y.y + 1) c.loop-y.count c.blank_in_row-count.result (omega arith)
          c.loop-y.invariant.1 (same_count s _ c.loop-y.y _ row.value (omega arith)),
    )
