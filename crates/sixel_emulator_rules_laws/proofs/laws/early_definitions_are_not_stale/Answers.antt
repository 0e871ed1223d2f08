use Rattle.sixel_emulator_rules_laws.proofs.StaleLemmas
use Rattle.sixel_emulator_rules_laws.proofs.laws.early_definitions_are_not_stale.Goals as goal

pub returns : goal.returns
returns c = StaleLemmas.first_is_not_stale
