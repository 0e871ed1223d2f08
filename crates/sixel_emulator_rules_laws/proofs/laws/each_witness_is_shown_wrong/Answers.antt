use Rattle.sixel_emulator_rules_laws.proofs.WrongLemmas.{each_witness_is_shown_wrong}
use Rattle.sixel_emulator_rules_laws.proofs.laws.each_witness_is_shown_wrong.Goals as goal

pub returns : goal.returns
returns c = each_witness_is_shown_wrong
