-- Where a data command paints. Points are in pixels, from the top left of the picture.
use Rattle.std.specs.Prelude.{◌==◌, ℕ, ◌+◌, ◌*◌, Bool, ◌&&◌, nat_le, nat_lt, List, sum_by, count_by}
use Rattle.std.specs.Int.{bit_at}
use Rattle.sixel_grammar.specs.declared.command.Event.{Event}
use Rattle.sixel_model.specs.Events.{bits_of, columns_of, is_next_line, is_return}
use Rattle.sixel_model.specs.Positions.{any_below, since}

-- a sixel has six bits; a band is a line of sixels
abbrev pub band_rows : ℕ
band_rows = 6

-- the band of the next sixel: the number of new lines before it
unfoldable pub band : List Event → ℕ
band before = count_by is_next_line before

-- the column of the next sixel: the columns of the events since the last return, added up, if a repeat of 0 has
-- `zero_columns`
unfoldable pub column : ℕ → List Event → ℕ
column zero_columns before = sum_by (columns_of zero_columns) (since is_return before)

-- whether a sixel of `count` columns from `left` on, in the band `line`, covers the point: it is in one of the columns,
-- and in the rows of a set bit. A bit has `rows` rows, and bit 0 is the top one; bits above the six paint nothing
unfoldable pub covers : ℕ → ℕ → ℕ → ℕ → ℕ → ℕ → ℕ → Bool
covers left count line rows bits x y =
    nat_le left x && nat_lt x (left + count)
    && any_below band_rows (λ k.
    (bit_at bits k == 1) && nat_le ((band_rows * line + k) * rows) y
    && nat_lt y ((band_rows * line + k) * rows + rows))

-- whether the event is a data command that covers the point; a repeat of 0 has `zero_columns` columns, and a bit `rows`
-- rows
unfoldable pub touches : ℕ → ℕ → List Event → Event → ℕ → ℕ → Bool
touches zero_columns rows before e x y =
    covers (column zero_columns before) (columns_of zero_columns e) (band before) rows (bits_of e) x y

-- the same, where a repeat of 0 has no columns and a bit has one row
unfoldable pub falls : List Event → Event → ℕ → ℕ → Bool
falls before e x y = touches 0 1 before e x y
