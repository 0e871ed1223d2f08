use Rattle.sixel_ppm_laws.proofs.PpmFoundLemmas
use Rattle.sixel_model.specs.Profiles.{count_of}
use Rattle.sixel_ppm_laws.proofs.laws.picture_files_are_read.Goals as goal

pub returns : goal.returns
returns c = λ profile. PpmFoundLemmas.picture_files_are_read (count_of profile)
