-- What the automaton of mlterm stores, and how an event changes it.
use Rattle.std.specs.Prelude.{◌≡◌, ◌<◌, ◌&&◌, ℕ, ◌+◌, ◌-◌, Bool, min, nat_le, unwrap_or}
use Rattle.std.specs.Prelude.{List, Option, Some, None, length, slice_index_or, slice_set, if◌then◌else◌}
use Rattle.std.specs.Option.{option_map_or}
use Rattle.sixel_grammar.specs.declared.command.Command.TheVariants.{Sixel, Repeat, Raster, NextLine}
use Rattle.sixel_grammar.specs.declared.command.Event.{Event}
use Rattle.sixel_grammar.specs.declared.command.Event.TheVariants.{Step}
use Rattle.sixel_model.specs.Events.{named_by}
use Rattle.sixel_model.specs.Positions.{latest}
use Rattle.sixel_emulator.specs.Places.{IsPlaceAfter}
use Rattle.sixel_mlterm.specs.declared.mlterm.MlTerm.{MlTerm}
use Rattle.sixel_mlterm.specs.declared.mlterm.buffer.Buffer.{Buffer as Stored}
use Rattle.sixel_mlterm.specs.MlTerm.{Buffer, given_by, mlterm_buffer, mlterm_register, mlterm_selected, raster_sides}
use Rattle.sixel_mlterm.specs.MlTerm.{resized, rows_to, said_by, with_data, with_line}

abbrev pub buffer_of : Stored → Buffer
buffer_of b = record { width = b.width; height = b.height; room = b.room; reach = b.reach; cut = b.cut }

-- the automaton has seen these events
pub record HasSeenMlTerm (m : MlTerm) (before : List Event) : Type 0 where
  pub place_is : IsPlaceAfter 0 m.place before
  pub selected_is : m.selected ≡ mlterm_selected before
  pub registers : length m.said ≡ 1024
  pub said_is : (r : ℕ) → r < 1024 → slice_index_or m.said r None ≡ latest (said_by r) before
  pub buffer_is : buffer_of m.buffer ≡ mlterm_buffer before

-- ---- how an event changes it

abbrev pub next_selected : MlTerm → Event → ℕ
next_selected m e = option_map_or mlterm_register (named_by e) m.selected

abbrev pub next_said : List (Option Bool) → Event → List (Option Bool)
next_said marks e = option_map_or (λ (g : ℕ × Bool). slice_set marks g.0 (Some g.1)) (given_by e) marks

abbrev pub next_buffer : MlTerm → Event → Buffer
next_buffer m (Step (Raster pan pad width height)) =
    resized (buffer_of m.buffer) (raster_sides (buffer_of m.buffer) width height)
next_buffer m (Step (Sixel bits)) = with_data (buffer_of m.buffer) (m.place.column + 1) (rows_to m.place.band)
next_buffer m (Step (Repeat count bits)) =
    with_data (buffer_of m.buffer) (m.place.column + count) (rows_to m.place.band)
next_buffer m (Step NextLine) = with_line (buffer_of m.buffer)
next_buffer m _ = buffer_of m.buffer

-- ---- what it makes of an event

-- whether the model says the colour of the selected register
abbrev pub said_in : MlTerm → Bool
said_in m = unwrap_or (slice_index_or m.said m.selected None) (nat_le m.selected 255)

-- ---- sixels one after the other

-- how many columns the buffer has from this one on, in a band that ends at this row
abbrev pub free_columns : Buffer → ℕ → ℕ → ℕ
free_columns b left rows = if nat_le rows b.height && nat_le rows 32767 then min b.width 32767 - left else 0
