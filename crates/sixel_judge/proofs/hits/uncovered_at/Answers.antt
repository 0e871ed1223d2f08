use Rattle.std.proofs.Common.{◌≡◌, true, false, rules}
use Rattle.sixel_model.specs.Events.{is_finish}
use Rattle.sixel_judge.proofs.HitLemmas.{uncovered_goes_on}
use Rattle.sixel_judge.proofs.hits.uncovered_at.Goals as goal

pub returns-then-is_finish : goal.returns-then-is_finish
returns-then-is_finish g c = λ registers before s k.
    let ends : is_finish c.args.event.now ≡ true = search rules in
    c.uncovered_at_finish.ensures registers before c.args.event.now ends s k

pub returns-else-is_finish : goal.returns-else-is_finish
returns-else-is_finish g c = λ registers before s k.
    let goes_on : is_finish c.args.event.now ≡ false = search rules in
    uncovered_goes_on registers before c.args.event.now goes_on
