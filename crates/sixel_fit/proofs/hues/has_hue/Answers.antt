use Rattle.std.proofs.Common.{◌∙◌, ◌≤◌, ◌<◌, None, length, ap, arith, sym}
use Rattle.std.proofs.lemmas.List.Folds.{list_any_at}
use Rattle.sixel_fit.specs.Rows.{is_hue}
use Rattle.sixel_fit.proofs.RowsLemmas.{entry_at, fails_more, none_any}
use Rattle.sixel_fit.proofs.hues.has_hue.Goals as goal

pub returns-then-is_hue : goal.returns-then-is_hue
returns-then-is_hue c =
    let palette = c.args.palette.now in
    let r = c.loop-register.register in
    let lt : r < length palette =
    omega (
      arith,
      c.loop-register-test.true,
      c.loop-register.auto.register-end,
      c.count-register-end.ensures.value,
      c.profile.ensures.count,
    ) in
    sym (list_any_at is_hue palette r None lt
    (ap is_hue (sym (c.get.ensures.value ∙ entry_at palette r)) ∙ sym c.is_hue.ensures ∙ c.if-is_hue.true))

pub loop-register-preserved : goal.loop-register-preserved
loop-register-preserved c =
    let palette = c.args.palette.now in
    let r = c.loop-register.register in
    fails_more is_hue palette None r c.loop-register.invariant
    (ap is_hue (sym (c.get.ensures.value ∙ entry_at palette r)) ∙ sym c.is_hue.ensures ∙ c.if-is_hue.false)

pub returns : goal.returns
returns c =
    let palette = c.args.palette.now in
    let all : length palette ≤ c.loop-register.register =
    omega (
      arith,
      c.loop-register-test.false,
      c.loop-register.auto.register-end,
      c.count-register-end.ensures.value,
      c.profile.ensures.count,
    ) in
    sym (none_any is_hue palette None (λ k lt. c.loop-register.invariant k (omega (arith, lt, all))))
