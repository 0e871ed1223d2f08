-- What an `XTerm` keeps of the events that it has read.
use Rattle.std.specs.Prelude.{◌≡◌, ◌==◌, ◌-◌, ◌%◌, ◌&&◌, ◌||◌, ℕ, Bool, not, List, nat_le, if◌then◌else◌}
use Rattle.std.specs.List.{list_any}
use Rattle.sixel_grammar.specs.declared.command.Event.{Event}
use Rattle.sixel_model.specs.Events.{is_data_command, is_next_line}
use Rattle.sixel_model.specs.Geometry.{band_rows}
use Rattle.sixel_xterm.specs.declared.xterm.XTerm.{XTerm}
use Rattle.sixel_emulator.specs.Words.{greatest, second_parameter}
use Rattle.sixel_xterm.specs.XTerm.{fills_xterm, height_of, is_past_rows, width_of, xterm_pen, xterm_rows, xterm_side}

-- the rows that are left with one more event
abbrev pub next_rows : ℕ → Event → ℕ
next_rows rows e = rows - (if is_next_line e then band_rows else 0)

-- a data command that comes next is drawn as it is, if it has room
abbrev pub is_free : List Event → Bool
is_free before = not ((xterm_pen before).ended || (xterm_pen before).returned || fills_xterm before)

-- a data command of so many columns with these bits has room, or needs none
abbrev pub has_room : List Event → ℕ → ℕ → Bool
has_room before count bits =
    (bits % 64 == 0) || (not (is_past_rows before) && nat_le count (xterm_side - (xterm_pen before).column))

pub record HasSeenXTerm (x : XTerm) (before : List Event) : Type 0 where
  pub pen_is : x.pen ≡ xterm_pen before
  pub rows_is : x.rows ≡ xterm_rows before
  pub width_is : x.width ≡ greatest width_of before
  pub height_is : x.height ≡ greatest height_of before
  pub has_data_is : x.has_data ≡ list_any is_data_command before
  pub second_is : x.second ≡ second_parameter before
