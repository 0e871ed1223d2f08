use Rattle.sixel_fit_laws.proofs.FittedLemmas.{fitted_picture}
use Rattle.sixel_fit_laws.proofs.laws.fitted_has_the_picture.Goals as goal

pub returns : goal.returns
returns c = fitted_picture
