use Rattle.sixel_emulator_rules_laws.proofs.LateLemmas
use Rattle.sixel_emulator_rules_laws.proofs.laws.late_definitions_can_differ.Goals as goal

pub returns : goal.returns
returns c = LateLemmas.late_definitions_can_differ
