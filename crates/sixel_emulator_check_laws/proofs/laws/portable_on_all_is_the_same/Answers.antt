use Rattle.sixel_emulator_check_laws.proofs.SameLemmas.{portable_on_all}
use Rattle.sixel_emulator_check_laws.proofs.laws.portable_on_all_is_the_same.Goals as goal

pub returns : goal.returns
returns c = portable_on_all
