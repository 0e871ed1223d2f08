use Rattle.sixel_emulator_rules.proofs.TallyLemmas.{finished}
use Rattle.sixel_emulator_rules.proofs.tallying.Tallying.entries.Goals as goal

pub returns : goal.returns
returns c = λ placed bytes h d.
    finished c.args.self.now placed bytes c.entries_of.result.items c.entries_of.ensures h d
