use Rattle.std.proofs.Common.{◌≡◌, Bool, true, false, refl}
use Rattle.std.specs.Prelude.{if◌then◌else◌}
use Rattle.sixel_emulator.specs.declared.reading.Reads.TheVariants.{Stops}
use Rattle.sixel_model.specs.Geometry.{band}
use Rattle.sixel_model.specs.Positions.{latest}
use Rattle.sixel_emulator.specs.Words.{after_each, after_first, greatest}
use Rattle.sixel_xterm.specs.XTerm.{xterm_pen}
use Rattle.sixel_named_terminals_laws.proofs.laws.xterm_on_strings.Goals as goal

pub returns-clause-greatest_sides : goal.returns-clause-greatest_sides
unfolding band greatest latest xterm_pen after_each after_first
returns-clause-greatest_sides c = λ next. refl

pub returns-clause-blank_sixel : goal.returns-clause-blank_sixel
unfolding band greatest latest xterm_pen after_each after_first
returns-clause-blank_sixel c = λ next. refl

pub returns-clause-far_columns : goal.returns-clause-far_columns
unfolding band greatest latest xterm_pen after_each after_first
returns-clause-far_columns c = λ next. refl

pub returns-clause-large_side : goal.returns-clause-large_side
unfolding band greatest latest xterm_pen after_each after_first
returns-clause-large_side c = λ next. refl

pub returns-clause-no_width : goal.returns-clause-no_width
unfolding band greatest latest xterm_pen after_each after_first
returns-clause-no_width c = λ next. refl

pub returns-clause-high_introducer : goal.returns-clause-high_introducer
unfolding band greatest latest xterm_pen after_each after_first
returns-clause-high_introducer c = λ next. refl

pub returns-clause-long_ratio : goal.returns-clause-long_ratio
unfolding band greatest latest xterm_pen after_each after_first
returns-clause-long_ratio c = λ next. refl

pub returns-clause-far_repeat : goal.returns-clause-far_repeat
unfolding band greatest latest xterm_pen after_each after_first
returns-clause-far_repeat c = λ next. refl

pub returns-clause-far_sixel : goal.returns-clause-far_sixel
unfolding band greatest latest xterm_pen after_each after_first
returns-clause-far_sixel c = λ next. refl

pub returns-clause-last_band_sixel : goal.returns-clause-last_band_sixel
unfolding band greatest latest xterm_pen after_each after_first
returns-clause-last_band_sixel c = (λ next. refl, λ next. refl)

pub returns-clause-last_band_repeat : goal.returns-clause-last_band_repeat
unfolding band greatest latest xterm_pen after_each after_first
returns-clause-last_band_repeat c = (λ next. refl, λ next. refl)

both_stop : (b : Bool) → (if b then Stops else Stops) ≡ Stops
both_stop true = refl
both_stop false = refl

pub returns-clause-bare_select : goal.returns-clause-bare_select
returns-clause-bare_select c = (refl, λ before next. both_stop (xterm_pen before).ended)

pub returns-clause-ratio : goal.returns-clause-ratio
returns-clause-ratio c = (refl, refl)

pub returns-clause-written_height : goal.returns-clause-written_height
returns-clause-written_height c = (refl, refl)

pub returns-clause-one_number : goal.returns-clause-one_number
unfolding band greatest latest xterm_pen after_each after_first
returns-clause-one_number c = (refl, λ next. refl)

pub returns-clause-later_ratio : goal.returns-clause-later_ratio
unfolding band greatest latest xterm_pen after_each after_first
returns-clause-later_ratio c = (refl, λ next. refl)
