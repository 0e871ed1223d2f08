-- Data commands that paint nothing, where a repeat of 0 has `zero_columns`.
use Rattle.std.specs.Prelude.{◌≡◌, ◌==◌, ◌+◌, ◌&&◌, ◌||◌, ℕ, true, not, Bool, List, [], ◌∷◌}
use Rattle.std.specs.List.{list_all}
use Rattle.sixel_grammar.specs.declared.command.Event.{Event}
use Rattle.sixel_model.specs.Events.{columns_of, is_data_command, is_painting}

-- the event is a data command without a column, or without any of the six bits
abbrev pub is_blank : ℕ → Event → Bool
is_blank zero_columns e = is_data_command e && (columns_of zero_columns e == 0 || not (is_painting e))

-- how many columns the events have together
abbrev pub columns_in : ℕ → List Event → ℕ
columns_in zero_columns [] = 0
columns_in zero_columns (e ∷ es) = columns_of zero_columns e + columns_in zero_columns es

-- these are such data commands, of so many columns together
pub record AreBlank (zero_columns columns : ℕ) (events : List Event) : Type 0 where
  pub each : list_all (is_blank zero_columns) events ≡ true
  pub columns_are : columns ≡ columns_in zero_columns events
