use Rattle.std.proofs.Common.{refl}
use Rattle.sixel_model.specs.Geometry.{band, column}
use Rattle.sixel_model.specs.Positions.{any_below, since}
use Rattle.sixel_konsole.specs.Konsole.{any_followed, counting, first_below, first_followed, greatest_at}
use Rattle.sixel_konsole.specs.Konsole.{greatest_below}
use Rattle.sixel_konsole.specs.Konsole.{has_begun, has_late, is_stuck, konsole_drawing}
use Rattle.sixel_named_terminals_laws.proofs.laws.konsole_on_strings.Goals as goal

pub returns : goal.returns
unfolding band column any_below since any_followed counting first_below first_followed greatest_at greatest_below
    has_begun has_late is_stuck konsole_drawing
returns c = record {
  dropped_select = refl;
  late_raster = refl;
  dropped_raster = refl;
  tall = refl;
  unknown_system = refl;
  bare_select = refl;
  no_width = λ next. refl;
  two_numbers = (refl, refl);
  other_numbers = (refl, refl, refl, refl, refl);
}
