use Rattle.sixel_model.specs.Profiles.{count_of}
use Rattle.sixel_encode_laws.proofs.LeadsBackLemmas
use Rattle.sixel_encode_laws.proofs.laws.canonical_lists_lead_back.Goals as goal

pub returns : goal.returns
returns c = record {
  unbroken = λ profile. LeadsBackLemmas.lists_break_no_rule (count_of profile);
  left = λ profile. LeadsBackLemmas.lists_leave_their_picture (count_of profile);
}
