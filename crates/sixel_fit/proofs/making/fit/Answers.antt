use Rattle.std.proofs.Common.{◌≡◌, ◌∙◌, ◌<◌, None, ap, arith, sym}
use Rattle.sixel_fit.specs.Rows.{pad_register}
use Rattle.sixel_fit.proofs.FaultLemmas.{has_register, no_some, unfit_from}
use Rattle.sixel_fit.proofs.making.fit.Goals as goal

pub returns-in-Some : goal.returns-in-Some
returns-in-Some c =
    unfit_from c.args.fitting.terminals c.args.fitting.pad c.args.picture c.height_for-height.result c.in-Some.fault
    (rw c.height.ensures.same at c.height_for-height.ensures.height) (sym c.reason_of.ensures ∙ c.in-Some.is)

pub returns : goal.returns
returns c =
    let pad = c.args.fitting.pad in
    let more : c.args.picture.height < c.height_for-height.result = omega (
      arith,
      c.height.ensures.same,
      c.height_for-height.ensures.above,
      c.height-2.ensures.same,
      c.if-height.false,
    ) in
    let unfound : pad_register pad c.args.picture.palette ≡ None = ap (pad_register pad) (sym c.palette.ensures.same)
    ∙ sym c.pad_register.ensures.value ∙ c.in-None.is in
    absurd (has_register c.args.fitting.terminals pad c.args.picture c.height_for-height.result more unfound
    (sym c.reason_of.ensures ∙ no_some c.reason_of.result c.in_default.not-Some))
