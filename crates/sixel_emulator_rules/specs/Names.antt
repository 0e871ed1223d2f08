-- How the rules are called.
use Rattle.std.specs.Prelude.{ℕ, List, codes}
use Rattle.sixel_emulator_rules.specs.declared.rule.AskedRule.{AskedRule}
use Rattle.sixel_emulator_rules.specs.declared.rule.AskedRule.TheVariants.{RasterLate, Dropped, Stale, Large, Rows}
use Rattle.sixel_emulator_rules.specs.declared.rule.AskedRule.TheVariants.{Past, Hue}
use Rattle.sixel_emulator_rules.specs.declared.rule.AskedRule.TheVariants.{Far, Introducer, Bare, SpaceAfter}

abbrev pub name_of : AskedRule → List ℕ
name_of RasterLate = codes "RasterLate"
name_of Dropped = codes "Dropped"
name_of Stale = codes "Stale"
name_of Large = codes "Large"
name_of Rows = codes "Rows"
name_of Past = codes "Past"
name_of Hue = codes "Hue"
name_of Far = codes "Far"
name_of Introducer = codes "Introducer"
name_of Bare = codes "Bare"
name_of SpaceAfter = codes "SpaceAfter"
