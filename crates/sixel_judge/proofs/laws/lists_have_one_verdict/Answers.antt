use Rattle.sixel_judge.proofs.DecideLemmas.{verdict_exists}
use Rattle.sixel_judge.proofs.VerdictLemmas.{verdict_once}
use Rattle.sixel_model.specs.Profiles.{count_of}
use Rattle.sixel_judge.proofs.laws.lists_have_one_verdict.Goals as goal

pub returns : goal.returns
returns c = record {
  some = λ profile. verdict_exists (count_of profile);
  once = λ profile. verdict_once (count_of profile);
}
