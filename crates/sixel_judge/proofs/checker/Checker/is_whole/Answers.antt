use Rattle.std.proofs.Common.{ap, ◌∙◌}
use Rattle.sixel_judge.specs.Standing.{CheckerValue, is_whole_at}
use Rattle.sixel_judge.proofs.StandLemmas.{stands_whole_at}
use Rattle.sixel_judge.proofs.checker.Checker.is_whole.Goals as goal

pub returns : goal.returns
returns g c = λ registers seen s.
    c.is_whole.ensures
    ∙ ap (λ (v : CheckerValue). is_whole_at v.progress) c.self.view_is
    ∙ stands_whole_at _ c.args.self.now seen s
