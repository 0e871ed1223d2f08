use Rattle.std.proofs.Common.{◌≤◌, ◌<◌, arith, inl, inr}
use Rattle.sixel_plane.specs.Covers.{kept_by}
use Rattle.sixel_survey.proofs.CoverLemmas.{IsRun, covered_blank, covered_none, covered_part, inside_covers}
use Rattle.sixel_survey.proofs.CoverLemmas.{outside_covers}
use Rattle.sixel_survey.proofs.cover.cover.Goals as goal

pub returns-then-bits-eq0 : goal.returns-then-bits-eq0
returns-then-bits-eq0 g c = λ left line column_is band_is.
    covered_blank (g.P.Cover.grid c.args.plane.now) left c.args.count line c.args.bits (omega arith)

pub returns-then-column-width : goal.returns-then-column-width
returns-then-column-width g c = λ left line column_is band_is.
    let s = g.P.Cover.grid c.args.plane.now in
    let run : IsRun c.args.column c.args.band left line = record { column_is = column_is; band_is = band_is } in
    let narrow : s.width < 4294967296 = omega (arith, c.width-width.ensures, c.width-width.type_inv) in
    let low : s.height < 4294967296 = omega (arith, c.height-height.ensures, c.height-height.type_inv) in
    let right : s.width ≤ c.args.column = omega (arith, c.if-column-width.true, c.width-width.ensures) in
    covered_none s left c.args.count line c.args.bits
    (λ x y p q. outside_covers c.args.count c.args.bits s.width s.height x y run narrow low (inl right) p q)

pub returns-then-band-height : goal.returns-then-band-height
returns-then-band-height g c = λ left line column_is band_is.
    let s = g.P.Cover.grid c.args.plane.now in
    let run : IsRun c.args.column c.args.band left line = record { column_is = column_is; band_is = band_is } in
    let narrow : s.width < 4294967296 = omega (arith, c.width-width.ensures, c.width-width.type_inv) in
    let low : s.height < 4294967296 = omega (arith, c.height-height.ensures, c.height-height.type_inv) in
    let below : s.height ≤ c.args.band = omega (arith, c.if-band-height.true, c.height-height.ensures) in
    covered_none s left c.args.count line c.args.bits
    (λ x y p q. outside_covers c.args.count c.args.bits s.width s.height x y run narrow low (inr below) p q)

pub returns : goal.returns
returns g c = λ left line column_is band_is.
    let s = g.P.Cover.grid c.args.plane.now in
    let run : IsRun c.args.column c.args.band left line = record { column_is = column_is; band_is = band_is } in
    let narrow : s.width < 4294967296 = omega (arith, c.width-width.ensures, c.width-width.type_inv) in
    let low : s.height < 4294967296 = omega (arith, c.height-height.ensures, c.height-height.type_inv) in
    let in_x : c.args.column < s.width = omega (arith, c.if-column-width.false, c.width-width.ensures) in
    let in_y : c.args.band < s.height = omega (arith, c.if-band-height.false, c.height-height.ensures) in
    rw (c.paint_run.ensures, c.min-count.ensures, c.width-width.ensures)
    (covered_part s left c.args.count line c.args.bits c.args.column c.args.band _ c.bits_within.result
    (kept_by g.P.Cover.keeps 0)
    (λ x y p q. inside_covers c.args.count c.args.bits s.width s.height c.bits_within.result
    x y run narrow low in_x in_y
    (λ k six above. c.bits_within.ensures.kept k six (omega (arith, above, c.height-height.ensures)))
    (λ k six below. c.bits_within.ensures.left_out k six (omega (arith, below, c.height-height.ensures))) p q))
