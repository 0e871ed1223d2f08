-- What an extent stores. `HasMeasured` of `Measuring` builds on it.
use Rattle.std.specs.Prelude.{◌≡◌, ◌==◌, ◌||◌, ℕ, ◌+◌, ◌-◌, ◌*◌, ◌^◌, Bool, false, List, Option, min}
use Rattle.std.specs.Prelude.{if◌then◌else◌}
use Rattle.std.specs.List.{list_any}
use Rattle.std.specs.Option.{option_map, option_or}
use Rattle.sixel_grammar.specs.declared.command.Command.TheVariants.{Define}
use Rattle.sixel_grammar.specs.declared.command.Event.{Event}
use Rattle.sixel_grammar.specs.declared.command.Event.TheVariants.{Step}
use Rattle.sixel_model.specs.Events.{Attributes, bits_of, columns_of, is_next_line, is_return, raster_of}
use Rattle.sixel_model.specs.Geometry.{band, band_rows, column}
use Rattle.sixel_model.specs.Rules.{raster_before}
use Rattle.sixel_mend.specs.declared.extent.Extent.{Extent}
use Rattle.sixel_mend.specs.declared.extent.Sides.{Sides}
use Rattle.sixel_mend.specs.declared.mending.Mending.{Mending}
use Rattle.sixel_mend.specs.Extents.{depth, reached}
use Rattle.sixel_mend.specs.Screens.{mending_terminal}
use Rattle.sixel_mend.specs.Sizes.{IsExtent, IsSize}

-- the greatest number that an extent stores; greater ones are stored as this
abbrev pub most : ℕ
most = 2 ^ 32 - 1

abbrev pub sides_of : Attributes → Sides
sides_of a = record { width = a.width; height = a.height }

-- the numbers after one more event
abbrev pub next_column : Extent → Event → ℕ
next_column e event = if is_return event then 0 else min (e.column + columns_of 1 event) most

abbrev pub next_band : Extent → Event → ℕ
next_band e event = min (e.band + (if is_next_line event then 1 else 0)) most

abbrev pub reached_column : Extent → Event → ℕ
reached_column e event = reached e.width (depth (bits_of event)) (min (e.column + columns_of 1 event) most)

abbrev pub reached_row : Extent → Event → ℕ
reached_row e event =
    reached e.height (depth (bits_of event)) (min (band_rows * e.band + depth (bits_of event)) most)

abbrev pub next_declared : Extent → Event → Option Sides
next_declared e event = option_or e.declared (option_map sides_of (raster_of event))

-- the event defines a colour in system 1, which is HLS
abbrev pub defines_hls : Event → Bool
defines_hls (Step (Define register system x y z)) = system == 1
defines_hls _ = false

abbrev pub next_has_hls : Extent → Event → Bool
next_has_hls e event = e.has_hls || defines_hls event

-- the extent is that of these events, on the terminal with any screen
pub record Measures (e : Extent) (events : List Event) : Type 0 where
  pub column_is : e.column ≡ min (column 1 events) most
  pub band_is : e.band ≡ min (band events) most
  pub width : ℕ
  pub height : ℕ
  pub extent : (m : Mending) (w h : ℕ) → IsExtent (mending_terminal m w h) events width height
  pub width_is : e.width ≡ min width most
  pub height_is : e.height ≡ min height most
  pub declared_is : e.declared ≡ option_map sides_of (raster_before events)
  pub has_hls_is : e.has_hls ≡ list_any defines_hls events

-- the size of the picture of these events; a side above `most` is stored as that
pub record IsSized (m : Mending) (events : List Event) (w h : ℕ) : Type 0 where
  pub width : ℕ
  pub height : ℕ
  pub size : IsSize m events width height
  pub width_is : w ≡ min width most
  pub height_is : h ≡ min height most
