use Rattle.std.proofs.Common.{◌∙◌, ap, Bool, if◌then◌else◌}
use Rattle.sixel_model.specs.declared.profile.Profile.{Profile}
use Rattle.sixel_model.specs.declared.profile.Profile.TheVariants.{Registers16, Registers256}
use Rattle.sixel_words.proofs.options.profile_of.Goals as goal

abbrev by_flag : Bool → Profile
by_flag given = if given then Registers256 else Registers16

pub returns-then-flag_of : goal.returns-then-flag_of
returns-then-flag_of c = ap by_flag (c.flag_of.ensures ∙ c.if-flag_of.true)
