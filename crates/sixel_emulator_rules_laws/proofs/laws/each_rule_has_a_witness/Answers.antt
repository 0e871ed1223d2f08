use Rattle.sixel_emulator_rules_laws.proofs.WitnessLemmas.{each_rule_has_a_witness}
use Rattle.sixel_emulator_rules_laws.proofs.laws.each_rule_has_a_witness.Goals as goal

pub returns : goal.returns
returns c = each_rule_has_a_witness
