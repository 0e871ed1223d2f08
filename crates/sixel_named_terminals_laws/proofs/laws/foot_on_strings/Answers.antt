use Rattle.std.proofs.Common.{refl}
use Rattle.sixel_model.specs.Geometry.{band, column}
use Rattle.sixel_model.specs.Positions.{latest, since}
use Rattle.sixel_emulator.specs.Words.{after_each, after_first}
use Rattle.sixel_named_terminals_laws.proofs.laws.foot_on_strings.Goals as goal

pub returns-clause-great_side : goal.returns-clause-great_side
unfolding after_each after_first band column latest since
returns-clause-great_side c = λ next. refl

pub returns-clause-narrow_box : goal.returns-clause-narrow_box
unfolding after_each after_first band column latest since
returns-clause-narrow_box c = λ next. refl

pub returns-clause-wide_box : goal.returns-clause-wide_box
unfolding after_each after_first band column latest since
returns-clause-wide_box c = λ next. refl

pub returns-clause-past_the_width : goal.returns-clause-past_the_width
unfolding after_each after_first band column latest since
returns-clause-past_the_width c = λ next. refl

pub returns-clause-late_box : goal.returns-clause-late_box
unfolding after_each after_first band column latest since
returns-clause-late_box c = refl

pub returns-clause-pen : goal.returns-clause-pen
unfolding after_each after_first band column latest since
returns-clause-pen c = (λ next. refl, λ next. refl)

pub returns-clause-bare_select : goal.returns-clause-bare_select
returns-clause-bare_select c = refl
