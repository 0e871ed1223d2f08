-- Named terminals have the registers of each profile.
use Rattle.std.proofs.Common.{◌≤◌, lit≤}
use Rattle.sixel_model.specs.Profiles.{count_of}
use Rattle.sixel_model.specs.declared.profile.Profile.{Profile}
use Rattle.sixel_model.specs.declared.profile.Profile.TheVariants.{Registers16, Registers256}

pub few : (profile : Profile) → count_of profile ≤ 1024
few Registers16 = lit≤ tt
few Registers256 = lit≤ tt

pub fewer : (profile : Profile) → count_of profile ≤ 256
fewer Registers16 = lit≤ tt
fewer Registers256 = lit≤ tt
