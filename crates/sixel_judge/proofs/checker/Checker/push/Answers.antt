use Rattle.std.proofs.Common.{ℕ, ap, subst, ◌∙◌}
use Rattle.sixel_grammar.specs.Document.{events_of}
use Rattle.sixel_judge.specs.Growth.{MayGrow}
use Rattle.sixel_judge.specs.Standing.{CheckerValue}
use Rattle.sixel_judge.proofs.GrowthLemmas.{err_says}
use Rattle.sixel_judge.proofs.StandLemmas.{judges_inside, registers_inside, stands_push}
use Rattle.sixel_judge.proofs.checker.Checker.push.Goals as goal

pub step-requires-clause-stands : goal.step-requires-clause-stands
step-requires-clause-stands g c = (
  c.requires.expected.1,
  judges_inside _ _ _ c.requires.expected.1 c.self.view_is c.requires.expected.2,
)

pub returns-in_err-step-clause-grows : goal.returns-in_err-step-clause-grows
returns-in_err-step-clause-grows g c =
    err_says _ c.from_residual.result
    (λ registers seen s.
    subst (λ (n : ℕ). MayGrow n (events_of seen) c.args.placed.now.event) (registers_inside _ _ _ seen c.self.view_is s)
    (c.in_err-step.ensures.grows seen (judges_inside _ _ _ seen c.self.view_is s)))

pub returns-clause-ok : goal.returns-clause-ok
returns-clause-ok g c = λ registers seen s.
    stands_push _ _ c.args.self.now _ c.requires.expected.1 seen c.args.placed.now c.requires.expected.2
    c.requires.expected.3 c.requires.spellable s
    (c.in_ok-step.ensures.profile ∙ ap (λ (v : CheckerValue). v.profile) c.self.view_is)
    (c.in_ok-step.ensures.ok seen (judges_inside _ _ _ seen c.self.view_is s))
    c.with-self-inside.ensures
