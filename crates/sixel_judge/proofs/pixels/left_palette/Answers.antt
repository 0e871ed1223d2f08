use Rattle.std.proofs.Common.{◌≡◌, ℕ, arith, subst}
use Rattle.sixel_model.specs.Profiles.{count_of}
use Rattle.sixel_judge.proofs.PaletteLemmas.{IsLeftTo, left_all}
use Rattle.sixel_judge.proofs.pixels.left_palette.Goals as goal

pub returns : goal.returns
returns c = λ events s none.
    let registers = count_of c.args.profile in
    let end : c.loop-register.register ≡ registers =
    omega (arith, c.loop-register-test.false, c.loop-register.auto.register-end, c.count-register-end.ensures.value) in
    left_all
    (subst (λ (k : ℕ). IsLeftTo registers k c.loop-register.palette events) end (c.loop-register.invariant.1 events s none))
