use Rattle.std.proofs.Common.{◌∙◌}
use Rattle.sixel_emulator_rules.proofs.tallying.TallyingFollower.take.Goals as goal

pub returns-clause-taken : goal.returns-clause-taken
returns-clause-taken c = λ first seen h.
    (c.push.ensures.terminals ∙ h.0, λ tallied. c.push.ensures.taken seen (h.1 tallied))
