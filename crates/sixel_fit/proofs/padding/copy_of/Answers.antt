use Rattle.std.proofs.Common.{◌∙◌, ◌<◌, length, arith, sym}
use Rattle.sixel_fit.proofs.RowsLemmas.{copied_all, copied_empty, copied_some}
use Rattle.sixel_fit.proofs.padding.copy_of.Goals.{in-Some, in_default}
use Rattle.sixel_fit.proofs.padding.copy_of.Goals as goal

pub loop-register-preserved : goal.loop-register-preserved
loop-register-preserved c =
    elim c.match-get.branch [
      | in-Some w ↦
          let lt : c.loop-register.register < length c.args.palette.now =
          omega (
            arith,
            c.loop-register-test.true,
            c.loop-register.auto.register-end,
            c.count-register-end.ensures.value,
            c.profile-2.ensures.count,
          ) in
          rw (w.copy-is, w.set.ensures.value)
          (copied_some w.in-Some.colour c.loop-register.invariant lt (sym w.in-Some.is ∙ c.get.ensures.value))
      | in_default w ↦
          rw w.copy-is (copied_empty c.loop-register.invariant (sym w.in_default.is ∙ c.get.ensures.value))
    ]

pub returns : goal.returns
returns c =
    copied_all c.loop-register.invariant
    (omega (
      arith,
      c.loop-register-test.false,
      c.loop-register.auto.register-end,
      c.count-register-end.ensures.value,
      c.profile-2.ensures.count,
    ))
