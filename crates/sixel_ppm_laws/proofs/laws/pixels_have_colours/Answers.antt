use Rattle.sixel_ppm_laws.proofs.PixelLemmas
use Rattle.sixel_model.specs.Profiles.{count_of}
use Rattle.sixel_ppm_laws.proofs.laws.pixels_have_colours.Goals as goal

pub returns : goal.returns
returns c = λ profile. PixelLemmas.pixels_have_colours (count_of profile)
