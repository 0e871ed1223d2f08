use Rattle.std.proofs.Common.{refl}
use Rattle.sixel_model.specs.Geometry.{band, column}
use Rattle.sixel_model.specs.Positions.{latest, since}
use Rattle.sixel_mlterm.specs.MlTerm.{is_said_colour}
use Rattle.sixel_emulator.specs.Words.{after_each, after_first}
use Rattle.sixel_named_terminals_laws.proofs.laws.mlterm_on_strings.Goals as goal

pub returns : goal.returns
unfolding band column latest since is_said_colour after_each after_first
returns c = record {
  chance = λ next. refl;
  samples = (λ next. refl, λ next. refl);
  system_nine = λ next. refl;
  five = λ next. refl;
  corner = λ next. refl;
  far_blank = λ next. refl;
  two_boxes = λ next. refl;
  undefined = λ next. refl;
  bare_select = (refl, λ before next. refl);
}
