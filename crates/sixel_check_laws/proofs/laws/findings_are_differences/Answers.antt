use Rattle.sixel_model.specs.Profiles.{count_of}
use Rattle.sixel_check_laws.proofs.PairLemmas.{eight_bit_differs, outside_differs, uncovered_differs}
use Rattle.sixel_check_laws.proofs.laws.findings_are_differences.Goals as goal

pub returns : goal.returns
returns c = record {
  uncovered = λ profile. uncovered_differs (count_of profile);
  outside = λ profile. outside_differs (count_of profile);
  eight_bit = λ profile. eight_bit_differs (count_of profile);
}
