use Rattle.std.proofs.Common.{◌≡◌, ◌∙◌, ◌≤◌, ◌<◌, None, length, ap, arith, is_none, rules, sym, true, false}
use Rattle.sixel_model.specs.declared.colour.Parts.{Parts}
use Rattle.sixel_fit.proofs.RowsLemmas.{entry_at, fails_more, first_at, first_nowhere}
use Rattle.sixel_fit.proofs.padding.free_register.Goals as goal

pub returns-then-is_none-clause-value : goal.returns-then-is_none-clause-value
returns-then-is_none-clause-value c =
    let palette = c.args.palette.now in
    let r = c.loop-register.register in
    let lt : r < length palette =
    omega (
      arith,
      c.loop-register-test.true,
      c.loop-register.auto.register-end,
      c.count-register-end.ensures.value,
      c.profile.ensures.count,
    ) in
    let none : is_none {T = Parts} c.get.result ≡ true = search rules in
    sym (first_at is_none palette None r lt c.loop-register.invariant
    (ap (is_none {T = Parts}) (sym (c.get.ensures.value ∙ entry_at palette r)) ∙ none))

pub loop-register-preserved : goal.loop-register-preserved
loop-register-preserved c =
    let palette = c.args.palette.now in
    let r = c.loop-register.register in
    let some : is_none {T = Parts} c.get.result ≡ false = search rules in
    fails_more is_none palette None r c.loop-register.invariant
    (ap (is_none {T = Parts}) (sym (c.get.ensures.value ∙ entry_at palette r)) ∙ some)

pub returns-clause-value : goal.returns-clause-value
returns-clause-value c =
    let palette = c.args.palette.now in
    let all : length palette ≤ c.loop-register.register =
    omega (
      arith,
      c.loop-register-test.false,
      c.loop-register.auto.register-end,
      c.count-register-end.ensures.value,
      c.profile.ensures.count,
    ) in
    sym (first_nowhere is_none palette None (λ k lt. c.loop-register.invariant k (omega (arith, lt, all))))
