-- The samples of an incomplete pixel. Only contracts of private functions cite these.
use Rattle.std.specs.Prelude.{ℕ, ◌&&◌, Bool, true, List, [], ◌∷◌, nat_le, nat_lt}
use Rattle.sixel_ppm.specs.declared.ppm.samples.PartialPixel.{PartialPixel}
use Rattle.sixel_ppm.specs.declared.ppm.samples.PartialPixel.TheVariants.{Nothing, Red, RedGreen}

abbrev pub partial_samples : PartialPixel → List ℕ
partial_samples Nothing = []
partial_samples (Red red) = red ∷ []
partial_samples (RedGreen red green) = red ∷ green ∷ []

-- the samples are at most the maximum, and a pixel is left for them
abbrev pub is_good : PartialPixel → ℕ → ℕ → Bool
is_good Nothing maxval left = true
is_good (Red red) maxval left = nat_lt 0 left && nat_le red maxval
is_good (RedGreen red green) maxval left = nat_lt 0 left && nat_le red maxval && nat_le green maxval
