-- What each event says.
use Rattle.std.specs.Prelude.{◌==◌, ℕ, ◌%◌, Bool, true, false, ◌&&◌, not, Option, Some, None, nat_lt, if◌then◌else◌}
use Rattle.sixel_model.specs.Pictures.{is_side}
use Rattle.sixel_grammar.specs.declared.command.Command.TheVariants.{Sixel, Repeat, Raster, Select, Define}
use Rattle.sixel_grammar.specs.declared.command.Command.TheVariants.{CarriageReturn, NextLine}
use Rattle.sixel_grammar.specs.declared.command.Event.{Event}
use Rattle.sixel_grammar.specs.declared.command.Event.TheVariants.{Start, Step, Finish}

-- a definition of a register: a colour system and three coordinates (Graphics Color Introducer)
pub record Definition : Type 0 where
  pub system : ℕ
  pub x : ℕ
  pub y : ℕ
  pub z : ℕ

-- the same system and the same coordinates
abbrev pub is_same_definition : Definition → Definition → Bool
is_same_definition d e = (d.system == e.system) && (d.x == e.x) && (d.y == e.y) && (d.z == e.z)

-- Raster Attributes: the pixel aspect ratio pan to pad, and the size of the declared box in pixels
pub record Attributes : Type 0 where
  pub pan : ℕ
  pub pad : ℕ
  pub width : ℕ
  pub height : ℕ

-- the ratio is given as 1 to 1; 2 to 2, which is the same ratio, doesn't count
abbrev pub is_square : Attributes → Bool
is_square a = (a.pan == 1) && (a.pad == 1)

-- each side of the declared box is from 1 to 2,048 pixels
abbrev pub has_sides : Attributes → Bool
has_sides a = is_side a.width && is_side a.height

-- the point lies in the declared box
abbrev pub is_in_box : Attributes → ℕ → ℕ → Bool
is_in_box a x y = nat_lt x a.width && nat_lt y a.height

-- a sixel, or a repeat of one
abbrev pub is_data_command : Event → Bool
is_data_command (Step (Sixel bits)) = true
is_data_command (Step (Repeat count bits)) = true
is_data_command _ = false

-- the end of a string
abbrev pub is_finish : Event → Bool
is_finish (Finish eight) = true
is_finish _ = false

-- a start or a finish in its 8-bit form: the introducer 90, or the terminator 9C
abbrev pub is_eight_bit : Event → Bool
is_eight_bit (Start eight parameters) = eight
is_eight_bit (Step command) = false
is_eight_bit (Finish eight) = eight

-- the bits of a data command; 0 for any other event
abbrev pub bits_of : Event → ℕ
bits_of (Step (Sixel bits)) = bits
bits_of (Step (Repeat count bits)) = bits
bits_of _ = 0

-- a data command with at least one of the six bits set; higher bits, which no text spells, paint nothing
abbrev pub is_painting : Event → Bool
is_painting e = not (bits_of e % 64 == 0)

-- a repeat of 0
abbrev pub is_repeat_of_zero : Event → Bool
is_repeat_of_zero (Step (Repeat count bits)) = count == 0
is_repeat_of_zero _ = false

-- the width of a data command in columns, if a repeat of 0 has `zero_columns`; 0 for any other event
abbrev pub columns_of : ℕ → Event → ℕ
columns_of zero_columns (Step (Sixel bits)) = 1
columns_of zero_columns (Step (Repeat count bits)) = if count == 0 then zero_columns else count
columns_of zero_columns _ = 0

-- a Graphics New Line
abbrev pub is_next_line : Event → Bool
is_next_line (Step NextLine) = true
is_next_line _ = false

-- a Graphics Carriage Return or a Graphics New Line: both go to the left margin
abbrev pub is_return : Event → Bool
is_return (Step CarriageReturn) = true
is_return (Step NextLine) = true
is_return _ = false

-- what the event says, if it is Raster Attributes
abbrev pub raster_of : Event → Option Attributes
raster_of (Step (Raster pan pad width height)) =
    Some (record { pan = pan; pad = pad; width = width; height = height })
raster_of _ = None

-- the register that a select names
abbrev pub select_of : Event → Option ℕ
select_of (Step (Select register)) = Some register
select_of _ = None

-- the register that a select or a definition names
abbrev pub named_by : Event → Option ℕ
named_by (Step (Select register)) = Some register
named_by (Step (Define register system x y z)) = Some register
named_by _ = None

-- what the event says, if it defines a register that passes the test
abbrev pub definition_where : (ℕ → Bool) → Event → Option Definition
definition_where p (Step (Define register system x y z)) =
    if p register then Some (record { system = system; x = x; y = y; z = z }) else None
definition_where p _ = None
