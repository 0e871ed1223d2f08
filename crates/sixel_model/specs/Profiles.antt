-- The profiles, by their colour registers.
use Rattle.std.specs.Prelude.{ℕ}
use Rattle.sixel_model.specs.declared.profile.Profile.{Profile}
use Rattle.sixel_model.specs.declared.profile.Profile.TheVariants.{Registers16, Registers256}

-- how many registers a profile has
abbrev pub count_of : Profile → ℕ
count_of Registers16 = 16
count_of Registers256 = 256
