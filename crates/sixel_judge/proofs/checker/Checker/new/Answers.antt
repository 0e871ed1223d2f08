use Rattle.std.proofs.Common.{ap, refl}
use Rattle.sixel_model.specs.Profiles.{count_of}
use Rattle.sixel_judge.proofs.StandLemmas.{stands_none}
use Rattle.sixel_judge.proofs.checker.Checker.new.Goals as goal

pub returns : goal.returns
returns g c = stands_none _ _ (ap count_of c.new.ensures.profile) c.new.ensures.none refl
