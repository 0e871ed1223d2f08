use Rattle.sixel_emulator_rules_laws.proofs.PixelLemmas.{bare_string_is_shown_wrong}
use Rattle.sixel_emulator_rules_laws.proofs.laws.bare_string_is_shown_wrong.Goals as goal

pub returns : goal.returns
returns c = bare_string_is_shown_wrong
