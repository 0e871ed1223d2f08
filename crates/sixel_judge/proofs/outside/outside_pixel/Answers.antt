use Rattle.std.proofs.Common.{sym, ◌∙◌}
use Rattle.sixel_judge.proofs.OutsideLemmas.{IsCapped, inside_fits, no_bits_fit, none_outside}
use Rattle.sixel_judge.proofs.outside.outside_pixel.Goals as goal
use Rattle.sixel_judge.proofs.outside.outside_pixel.Goals.{then-bits-eq0, else-bits-eq0}

pub returns-then-is_inside : goal.returns-then-is_inside
returns-then-is_inside c = λ left line column_is band_is.
    let w : IsCapped c.args.column c.args.band left line c.args.width c.args.height =
    record { column_is = column_is; band_is = band_is; narrow = c.ranges.width.fits; low = c.ranges.height.fits } in
    none_outside left _ line _ _ _
    (elim c.if-bits-eq0.branch [
      | then-bits-eq0 w0 ↦ no_bits_fit left c.args.count line c.args.bits c.args.width c.args.height w0.if-bits-eq0.true
      | else-bits-eq0 w0 ↦
          inside_fits c.args.column c.args.band left line c.args.width c.args.height c.args.count c.args.bits w
          (w0.is_inside.ensures.0 (sym w0.value-is ∙ c.if-is_inside.true)).0
          (w0.is_inside.ensures.0 (sym w0.value-is ∙ c.if-is_inside.true)).1
    ])
