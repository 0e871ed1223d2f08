use Rattle.sixel_model.specs.Profiles.{count_of}
use Rattle.sixel_model.proofs.PictureLemmas.{at_most_256}
use Rattle.sixel_emulator_check_laws.proofs.ShownLemmas.{outcomes_are_shown, verdicts_are_shown}
use Rattle.sixel_emulator_check_laws.proofs.laws.portable_is_shown_on_each.Goals as goal

pub returns : goal.returns
returns c = record {
  verdicts = λ profile. verdicts_are_shown (count_of profile) (at_most_256 profile);
  outcomes = λ profile. outcomes_are_shown (count_of profile) (at_most_256 profile);
}
