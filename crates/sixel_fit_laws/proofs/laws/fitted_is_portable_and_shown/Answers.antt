use Rattle.sixel_fit_laws.proofs.PortableLemmas.{fitted_is_portable}
use Rattle.sixel_fit_laws.proofs.laws.fitted_is_portable_and_shown.Goals as goal

pub returns : goal.returns
returns c = fitted_is_portable
