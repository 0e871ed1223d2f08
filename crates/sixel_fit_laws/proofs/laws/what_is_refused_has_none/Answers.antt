use Rattle.sixel_model.specs.Profiles.{count_of}
use Rattle.sixel_fit_laws.proofs.UnfitLemmas.{unfit_has_none}
use Rattle.sixel_fit_laws.proofs.laws.what_is_refused_has_none.Goals as goal

pub returns : goal.returns
returns c = λ profile. unfit_has_none (count_of profile)
