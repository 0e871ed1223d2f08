use Rattle.sixel_judge.proofs.CoverLemmas.{all_covered, filled_first}
use Rattle.sixel_judge.proofs.WithinLemmas.{clipping_changes_nothing, none_painted_outside}
use Rattle.sixel_model.specs.Profiles.{count_of}
use Rattle.sixel_judge.proofs.laws.box_is_covered.Goals as goal

pub returns : goal.returns
returns c = record {
  filled_first = λ profile. filled_first (count_of profile);
  all_covered = λ profile. all_covered (count_of profile);
  none_outside = λ profile. none_painted_outside (count_of profile);
  none_clipped = λ profile. clipping_changes_nothing (count_of profile);
}
