-- What a measure of konsole's rectangle stores.
use Rattle.std.specs.Prelude.{◌≡◌, ◌+◌, ◌*◌, ℕ, Bool, false, List, [], Option, max, min, if◌then◌else◌}
use Rattle.std.specs.Option.{option_map_or}
use Rattle.sixel_grammar.specs.declared.command.Command.{Command}
use Rattle.sixel_grammar.specs.declared.command.Command.TheVariants.{Raster}
use Rattle.sixel_grammar.specs.declared.command.Event.{Event}
use Rattle.sixel_model.specs.Events.{Attributes, is_data_command}
use Rattle.sixel_model.specs.Geometry.{band_rows}
use Rattle.sixel_terminal.specs.Stretches.{sixels_of}
use Rattle.sixel_konsole.specs.declared.rectangle.KonsoleMeasure.{KonsoleMeasure}
use Rattle.sixel_konsole.specs.declared.rectangle.Reach.{Reach}
use Rattle.sixel_konsole.specs.Konsole.{column_after, greatest_at, konsole_drawing, konsole_tall, row_after, side}
use Rattle.sixel_konsole.specs.KonsoleSeen.{HasSeenKonsole, counting_in}
use Rattle.sixel_emulator.specs.Places.{IsPlaceAfter, most}

-- how far data commands reach in a drawing
pub record IsReach (r : Reach) (drawing : List Event) : Type 0 where
  pub place_is : IsPlaceAfter 1 r.place drawing
  pub columns_are : r.columns ≡ min (greatest_at column_after drawing) most
  pub rows_are : r.rows ≡ min (greatest_at row_after drawing) most

-- what is reached with one more event; the column is that of the next sixel then
abbrev pub reached_columns : Reach → Event → ℕ → ℕ
reached_columns r e column = if is_data_command e then max r.columns column else r.columns

abbrev pub reached_rows : Reach → Event → ℕ
reached_rows r e = if is_data_command e then max r.rows (min (band_rows * r.place.band + band_rows) most) else r.rows

-- what is drawn of sixels: nothing while all is dropped
abbrev pub drawn_sixels : Bool → List ℕ → List Event
drawn_sixels stuck bytes = if stuck then [] else sixels_of bytes

-- the measure is that of these events; `next` is the event after them
pub record HasMeasured (m : KonsoleMeasure) (events : List Event) (next : Option Event) : Type 0 where
  pub seen : HasSeenKonsole m.reading events
  pub reach : IsReach m.reach (konsole_drawing events next)

-- the rectangle, by the stored numbers
abbrev pub rectangle_by : Option Attributes → ℕ → ℕ → Command
rectangle_by counted columns rows =
    Raster (konsole_tall counted) 1 (side (max columns (option_map_or (λ (a : Attributes). a.width) counted 30)))
    (side (max rows (option_map_or (λ (a : Attributes). a.height) counted 6) * konsole_tall counted))

abbrev pub rectangle_in : KonsoleMeasure → Command
rectangle_in m = rectangle_by (counting_in m.reading false) m.reach.columns m.reach.rows
