use Rattle.sixel_model.specs.Profiles.{count_of}
use Rattle.sixel_emulator_rules_laws.proofs.CanonLemmas
use Rattle.sixel_emulator_rules_laws.proofs.CanonShownLemmas
use Rattle.sixel_emulator_rules_laws.proofs.ProfileLemmas
use Rattle.sixel_emulator_rules_laws.proofs.laws.canonical_lists_define_first.Goals as goal

pub returns : goal.returns
returns c = record {
  first = CanonLemmas.canon_defines_first;
  shown = λ profile. CanonShownLemmas.canon_shown (count_of profile) (ProfileLemmas.few profile);
}
