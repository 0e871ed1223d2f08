use Rattle.sixel_model.specs.Profiles.{count_of}
use Rattle.sixel_mend_laws.proofs.MendedLemmas as mended
use Rattle.sixel_mend_laws.proofs.laws.nothing_is_lost.Goals as goal

pub returns : goal.returns
returns c = λ profile. mended.nothing_is_lost (count_of profile)
