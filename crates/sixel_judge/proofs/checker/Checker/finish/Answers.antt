use Rattle.sixel_judge.proofs.AnswerLemmas.{stands_everywhere, stands_truly, verdict_inside}
use Rattle.sixel_judge.proofs.StandLemmas.{judges_inside, stands_whole}
use Rattle.sixel_judge.proofs.checker.Checker.finish.Goals as goal

pub verdict-requires : goal.verdict-requires
verdict-requires g c =
    let seen = c.requires.whole.1 in let s = c.requires.whole.2 in (
      seen,
      judges_inside _ _ _ seen c.self.view_is s,
      stands_whole _ _ c.args.self seen seen s c.requires.whole.3 s,
    )

pub returns-clause-verdict : goal.returns-clause-verdict
returns-clause-verdict g c = λ registers seen s.
    verdict_inside registers _ _ seen c.verdict.result c.self.view_is s
    (c.verdict.ensures seen (judges_inside _ _ _ seen c.self.view_is s))

pub returns-clause-everywhere : goal.returns-clause-everywhere
returns-clause-everywhere g c = λ registers seen s.
    stands_everywhere _ _ c.args.self c.requires.whole.1 seen c.verdict.result c.requires.whole.2 c.requires.whole.3 s
    (verdict_inside registers _ _ seen c.verdict.result c.self.view_is s
    (c.verdict.ensures seen (judges_inside _ _ _ seen c.self.view_is s)))

pub returns-clause-matters : goal.returns-clause-matters
returns-clause-matters g c = λ registers seen s.
    stands_truly _ _ c.args.self c.requires.whole.1 seen c.verdict.result c.requires.whole.2 c.requires.whole.3 s
    (verdict_inside registers _ _ seen c.verdict.result c.self.view_is s
    (c.verdict.ensures seen (judges_inside _ _ _ seen c.self.view_is s)))
