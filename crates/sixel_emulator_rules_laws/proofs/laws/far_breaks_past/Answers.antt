use Rattle.sixel_emulator_rules_laws.proofs.FarLemmas.{far_breaks_past}
use Rattle.sixel_emulator_rules_laws.proofs.laws.far_breaks_past.Goals as goal

pub returns : goal.returns
returns c = far_breaks_past
