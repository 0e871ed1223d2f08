use Rattle.sixel_emulator_rules.proofs.TallyLemmas.{tallied_none}
use Rattle.sixel_emulator_rules.proofs.tallying.Tallying.new.Goals as goal

pub returns-clause-tallied : goal.returns-clause-tallied
returns-clause-tallied c = tallied_none c.args.terminals c.new.result c.new.ensures
