-- What a place stores.
use Rattle.std.specs.Prelude.{◌≡◌, ℕ, ◌+◌, ◌-◌, ◌^◌, List, min, if◌then◌else◌}
use Rattle.sixel_grammar.specs.declared.command.Event.{Event}
use Rattle.sixel_model.specs.Events.{columns_of, is_next_line, is_return}
use Rattle.sixel_model.specs.Geometry.{band, column}
use Rattle.sixel_emulator.specs.declared.place.Place.{Place}

-- the greatest number that is stored; greater ones are stored as this
abbrev pub most : ℕ
most = 2 ^ 32 - 1

-- so many columns further right
abbrev pub moved : ℕ → Place → Place
moved columns p = record p { column = min (p.column + columns) most }

-- the place after one more event, if a repeat of 0 has `zero_columns`
abbrev pub next_column : ℕ → Place → Event → ℕ
next_column zero_columns p e = if is_return e then 0 else min (p.column + columns_of zero_columns e) most

abbrev pub next_band : Place → Event → ℕ
next_band p e = min (p.band + (if is_next_line e then 1 else 0)) most

-- the place is that of the next sixel, if a repeat of 0 has `zero_columns`
pub record IsPlaceAfter (zero_columns : ℕ) (p : Place) (before : List Event) : Type 0 where
  pub column_is : p.column ≡ min (column zero_columns before) most
  pub band_is : p.band ≡ min (band before) most
