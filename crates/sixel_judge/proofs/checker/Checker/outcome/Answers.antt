use Rattle.sixel_judge.proofs.AnswerLemmas.{stands_everywhere, stands_truly, verdict_inside}
use Rattle.sixel_judge.proofs.StandLemmas.{judges_inside, stands_whole}
use Rattle.sixel_judge.proofs.checker.Checker.outcome.Goals as goal

pub outcome-requires : goal.outcome-requires
outcome-requires g c =
    let seen = c.requires.whole.1 in let s = c.requires.whole.2 in (
      seen,
      judges_inside _ _ _ seen c.self.view_is s,
      stands_whole _ _ c.args.self seen seen s c.requires.whole.3 s,
    )

pub returns : goal.returns
returns g c = λ registers seen s.
    let found = c.outcome.ensures seen (judges_inside _ _ _ seen c.self.view_is s) in
    let is = verdict_inside registers _ _ seen found.0 c.self.view_is s found.1 in record {
      verdict = found.0;
      verdict_is = is;
      everywhere = stands_everywhere _ _ c.args.self c.requires.whole.1 seen found.0 c.requires.whole.2 c.requires.whole.3 s is;
      matters = stands_truly _ _ c.args.self c.requires.whole.1 seen found.0 c.requires.whole.2 c.requires.whole.3 s is;
      outcome_is = found.2;
    }
