use Rattle.std.proofs.Common.{◌≡◌, ◌∙◌, length, nat_lt, true, false, refl, sym, arith}
use Rattle.std.specs.List.{list_all}
use Rattle.std.proofs.lemmas.Bool.{le-ltb, lt-ltb}
use Rattle.sixel_model.proofs.PictureLemmas.{some_registers}
use Rattle.sixel_model.proofs.picture.reason_of_registers.Goals as goal

pub returns-then-from-count : goal.returns-then-from-count
returns-then-from-count c =
    let some = some_registers c.profile.result in
    let above : list_all (λ r. nat_lt r (length c.args.palette.now)) c.args.registers.now ≡ false =
    c.greatest_register-greatest_register.ensures (length c.args.palette.now)
    (omega (arith, some, c.profile.ensures.count))
    ∙ le-ltb _ _
    (omega (arith, c.if-from-count.true, c.profile.ensures.count, c.count.ensures.value, c.from.ensures)) in
    rw above refl

pub returns-then-not-has_all : goal.returns-then-not-has_all
returns-then-not-has_all c =
    let some = some_registers c.profile.result in
    let below : list_all (λ r. nat_lt r (length c.args.palette.now)) c.args.registers.now ≡ true =
    c.greatest_register-greatest_register.ensures (length c.args.palette.now)
    (omega (arith, some, c.profile.ensures.count))
    ∙ lt-ltb _ _
    (omega (arith, c.if-from-count.false, c.profile.ensures.count, c.count.ensures.value, c.from.ensures)) in
    rw (below, sym c.has_all.ensures.value ∙ c.if-not-has_all.true) refl
