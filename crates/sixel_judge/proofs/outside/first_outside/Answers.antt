use Rattle.std.proofs.Common.{◌≡◌, arith, sym, ◌∙◌, ap, subst, ℕ, Some}
use Rattle.std.proofs.lemmas.Bool.{eqb-true}
use Rattle.std.specs.Int.{bit_at}
use Rattle.sixel_judge.specs.Outside.{IsFirstIfAny, PaintsOutside, first_column}
use Rattle.sixel_judge.proofs.OutsideLemmas.{IsCapped, all_fit, first_outside, no_columns_outside, none_outside}
use Rattle.sixel_judge.proofs.outside.first_outside.Goals as goal

pub returns-then-count-eq0 : goal.returns-then-count-eq0
returns-then-count-eq0 c = λ left line column_is band_is x y p. no_columns_outside c.if-count-eq0.true p

pub returns-in-Some : goal.returns-in-Some
returns-in-Some c = λ left line column_is band_is.
    let w : IsCapped c.args.column c.args.band left line c.args.width c.args.height =
    record { column_is = column_is; band_is = band_is; narrow = c.ranges.width.fits; low = c.ranges.height.fits } in
    let k : ℕ = c.loop-bit.bit in
    let fit = all_fit k c.args.count c.args.bits w c.loop-bit.invariant in
    let set : bit_at c.args.bits k ≡ 1 = eqb-true _ _ (sym c.if-is_set.ensures) in
    let outside = PaintsOutside left c.args.count line c.args.bits c.args.width c.args.height in
    let column_in = λ (row : ℕ). first_column c.args.column c.args.count row c.args.width c.args.height in
    let first = sym (c.in-Some.ensures ∙ ap column_in c.row_of-row.ensures) in
    subst (λ (row : ℕ). IsFirstIfAny outside (Some (c.in-Some.x, row))) (sym c.row_of-row.ensures)
    (first_outside c.in-Some.x w fit (omega arith) set (omega arith) first)

pub returns : goal.returns
returns c = λ left line column_is band_is.
    let w : IsCapped c.args.column c.args.band left line c.args.width c.args.height =
    record { column_is = column_is; band_is = band_is; narrow = c.ranges.width.fits; low = c.ranges.height.fits } in
    none_outside left _ line _ _ _ (all_fit 6 c.args.count c.args.bits w (λ j lt. c.loop-bit.invariant j (omega arith)))
