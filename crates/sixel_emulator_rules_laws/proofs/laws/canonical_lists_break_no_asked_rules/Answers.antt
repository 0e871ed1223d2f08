use Rattle.sixel_emulator_rules_laws.proofs.CanonAskedLemmas
use Rattle.sixel_emulator_rules_laws.proofs.laws.canonical_lists_break_no_asked_rules.Goals as goal

pub returns : goal.returns
returns c = record {
  mlterm = CanonAskedLemmas.canon_suits_mlterm;
  foot = CanonAskedLemmas.canon_suits_foot;
  xterm = CanonAskedLemmas.canon_suits_xterm;
  konsole = CanonAskedLemmas.canon_suits_konsole;
}
