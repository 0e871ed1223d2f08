use Rattle.std.proofs.Common.{ap, ◌∙◌}
use Rattle.sixel_judge.specs.Standing.{CheckerValue, expects_from}
use Rattle.sixel_judge.proofs.StandLemmas.{stands_expects}
use Rattle.sixel_judge.proofs.checker.Checker.expects.Goals as goal

pub returns : goal.returns
returns g c = λ registers seen s.
    c.expects.ensures
    ∙ ap (λ (v : CheckerValue). expects_from v.progress c.args.event.now) c.self.view_is
    ∙ stands_expects _ c.args.self.now seen c.args.event.now s
