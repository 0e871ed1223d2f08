-- What a `Foot` keeps of the events that it has read.
use Rattle.std.specs.Prelude.{◌≡◌, ◌<◌, ◌||◌, ℕ, Bool, List, is_some, length, min, not}
use Rattle.std.specs.List.{list_any}
use Rattle.sixel_grammar.specs.declared.command.Event.{Event}
use Rattle.sixel_model.specs.Colours.{palette_at}
use Rattle.sixel_model.specs.Events.{is_data_command, is_next_line, is_painting, raster_of}
use Rattle.sixel_foot.specs.declared.foot.Foot.{Foot}
use Rattle.sixel_foot.specs.declared.foot.colours.Colours.{Colours}
use Rattle.sixel_foot.specs.declared.foot.size.Growing.{Growing}
use Rattle.sixel_foot.specs.Foot.{foot_colour, foot_rows, foot_size}
use Rattle.sixel_emulator.specs.Places.{IsPlaceAfter, most}

-- there is an entry for each register, and it is the register's colour
pub record HasColours (c : Colours) (before : List Event) : Type 0 where
  pub whole : length c.entries.items ≡ 1024
  pub each : (register : ℕ) → register < 1024 → palette_at c.entries.items register ≡ foot_colour before register

-- the size, with sides that stop at the greatest number that is stored
pub record HasGrown (g : Growing) (before : List Event) : Type 0 where
  pub place : IsPlaceAfter 1 g.place before
  pub width_is : g.width ≡ min (foot_size before).width most
  pub height_is : g.height ≡ min (foot_size before).height most
  pub rows_is : g.rows ≡ foot_rows before

pub record HasSeenFoot (f : Foot) (before : List Event) : Type 0 where
  pub colours : HasColours f.colours before
  pub size : HasGrown f.size before
  pub has_painted_is : f.has_painted ≡ list_any is_painting before

-- the event leaves the size as it is
abbrev pub grows_not : Event → Bool
grows_not e = not (is_data_command e || is_next_line e || is_some (raster_of e))
