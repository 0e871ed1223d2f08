use Rattle.std.proofs.Common.{◌∙◌, sym, arith}
use Rattle.sixel_ppm.proofs.PpmColourLemmas.{first_next, none_left, numbered_before, numbered_next, registers_kept}
use Rattle.sixel_ppm.proofs.PpmColourLemmas.{unused_next}
use Rattle.sixel_ppm.proofs.ppm.colours.Colours.register_of.Goals as goal

pub returns-in-Some-clause-numbers : goal.returns-in-Some-clause-numbers
returns-in-Some-clause-numbers c =
    λ seen fills. numbered_before c.args.self.now seen c.args.colour c.index_of.result c.in-Some.index c.in-Some.is
    c.index_of.ensures.value fills

pub returns-then-register-count-clause-numbers : goal.returns-then-register-count-clause-numbers
returns-then-register-count-clause-numbers c =
    λ seen fills. none_left c.args.self.now seen c.args.colour c.index_of.result c.in_default.is
    c.index_of.ensures.value
    (omega (arith, c.if-register-count.true, c.count.ensures.value, c.profile.ensures.count)) fills

pub returns-clause-numbers : goal.returns-clause-numbers
returns-clause-numbers c =
    λ seen fills. numbered_next c.args.self.now c.set.new.self seen c.args.colour c.index_of.result c.in_default.is
    c.index_of.ensures.value
    (omega (arith, c.if-register-count.false, c.count.ensures.value, c.profile.ensures.count)) c.set.ensures.value fills

pub returns-clause-first : goal.returns-clause-first
returns-clause-first c =
    rw c.set.ensures.value
    (first_next c.args.self.now.palette c.args.self.now.count c.args.colour
    (sym c.in_default.is ∙ c.index_of.ensures.value)
    (omega (arith, c.if-register-count.false, c.count.ensures.value, c.profile.ensures.count)))

pub returns-clause-kept : goal.returns-clause-kept
returns-clause-kept c = λ unused.
    rw c.set.ensures.value (
      unused_next c.args.self.now.palette c.args.self.now.count c.args.colour unused,
      registers_kept c.args.self.now.palette c.args.self.now.count c.args.colour unused,
    )
