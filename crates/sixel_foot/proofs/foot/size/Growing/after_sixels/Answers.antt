use Rattle.std.proofs.Common.{◌∙◌, ◌++◌, ◌<◌, length, subst, sym, arith}
use Rattle.sixel_terminal.specs.Stretches.{sixels_of}
use Rattle.sixel_foot.specs.declared.foot.size.Growing.{Growing}
use Rattle.sixel_foot.specs.FootSeen.{HasGrown}
use Rattle.sixel_foot.proofs.FootLemmas.{grown_over}
use Rattle.sixel_emulator.proofs.PlainLemmas.{none_over}
use Rattle.sixel_foot.proofs.foot.size.Growing.after_sixels.Goals as goal

pub returns-then-count-eq0 : goal.returns-then-count-eq0
returns-then-count-eq0 c = λ before bytes long s.
    subst (HasGrown c.args.self) (sym (none_over before bytes (long ∙ c.if-count-eq0.true))) s

pub returns : goal.returns
returns c = λ before bytes long s.
    let some : 0 < length bytes = omega (arith, long, c.if-count-eq0.false) in
    subst (λ (g : Growing). HasGrown g (before ++ sixels_of bytes)) (sym c.widened_to.ensures)
    (grown_over c.after_sixels.result before bytes some s (c.after_sixels.ensures 1 before bytes long s.place))
