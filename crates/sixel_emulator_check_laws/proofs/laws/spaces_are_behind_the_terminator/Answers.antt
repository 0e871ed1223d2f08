use Rattle.sixel_emulator_check_laws.proofs.TrailerLemmas.{spaces_are_behind}
use Rattle.sixel_emulator_check_laws.proofs.laws.spaces_are_behind_the_terminator.Goals as goal

pub returns : goal.returns
returns c = spaces_are_behind
