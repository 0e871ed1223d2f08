use Rattle.sixel_model.specs.Profiles.{count_of}
use Rattle.sixel_emulator_rules_laws.proofs.KonsoleShownLemmas
use Rattle.sixel_emulator_rules_laws.proofs.MlTermShownLemmas
use Rattle.sixel_emulator_rules_laws.proofs.ProfileLemmas
use Rattle.sixel_emulator_rules_laws.proofs.ShownLemmas
use Rattle.sixel_emulator_rules_laws.proofs.XTermShownLemmas
use Rattle.sixel_emulator_rules_laws.proofs.laws.named_terminals_show_portable_pictures.Goals as goal

pub returns : goal.returns
returns c = record {
  xterm = λ profile. XTermShownLemmas.xterm_shows (count_of profile) (ProfileLemmas.fewer profile);
  mlterm = λ profile. MlTermShownLemmas.mlterm_shows (count_of profile) (ProfileLemmas.fewer profile);
  foot = λ profile. ShownLemmas.foot_shows (count_of profile) (ProfileLemmas.few profile);
  konsole = λ profile. KonsoleShownLemmas.konsole_shows (count_of profile) (ProfileLemmas.fewer profile);
}
