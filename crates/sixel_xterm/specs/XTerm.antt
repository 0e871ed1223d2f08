-- xterm 379, run as a VT340. A definition doesn't select, and a pixel has the colour that its register has at the end.
-- The first data command fills a box with register 0. What xterm can't read ends the string: what is drawn stays.
use Rattle.std.specs.Prelude.{◌==◌, ◌&&◌, ◌||◌, ℕ, ◌+◌, ◌-◌, ◌*◌, ◌/◌, ◌%◌, Bool, true, false, not, List, min, nat_lt}
use Rattle.std.specs.Prelude.{slice_index_or, if◌then◌else◌}
use Rattle.std.specs.List.{list_any}
use Rattle.std.specs.Option.{option_map_or}
use Rattle.sixel_grammar.specs.declared.command.Command.{Command}
use Rattle.sixel_grammar.specs.declared.command.Command.TheVariants.{Sixel, Repeat, Raster, Select, Define}
use Rattle.sixel_grammar.specs.declared.command.Command.TheVariants.{CarriageReturn, NextLine}
use Rattle.sixel_grammar.specs.declared.command.Event.{Event}
use Rattle.sixel_grammar.specs.declared.command.Event.TheVariants.{Start, Step, Finish}
use Rattle.sixel_model.specs.Colours.{colour_in, is_colour}
use Rattle.sixel_model.specs.Events.{Attributes, Definition, columns_of, is_data_command, is_painting, is_return, raster_of}
use Rattle.sixel_model.specs.Geometry.{band, band_rows}
use Rattle.sixel_emulator.specs.declared.reading.Reads.{Reads}
use Rattle.sixel_emulator.specs.declared.reading.Reads.TheVariants.{Nothing, Draws, DrawsTwo, Stops, Unsaid}
use Rattle.sixel_emulator.specs.Readings.{Model, Rule, no_opening}
use Rattle.sixel_emulator.specs.Words.{after_each, greatest, kept, second_parameter}
use Rattle.sixel_xterm.specs.declared.pen.Pen.{Pen}

-- how many registers there are; a greater number is taken modulo this
abbrev pub xterm_registers : ℕ
xterm_registers = 1024

-- the largest side of a box, and how many columns and how many rows are painted
abbrev pub xterm_side : ℕ
xterm_side = 1000

-- the greatest number of which the model says what xterm reads
abbrev pub xterm_number : ℕ
xterm_number = 32767

-- ---- the introducer

-- nothing of the string is drawn if the first parameter is above 9
abbrev pub xterm_introducer : List ℕ → Reads
xterm_introducer parameters = if nat_lt 9 (slice_index_or parameters 0 0) then Stops else Nothing

-- ---- raster attributes

-- the ratio has a 0, which ends the string
abbrev pub has_no_ratio : ℕ → ℕ → Bool
has_no_ratio pan pad = (pan == 0) || (pad == 0)

-- the sides end it: one is above the largest, or the width is 0
abbrev pub ends_xterm : ℕ → ℕ → Bool
ends_xterm width height = nat_lt xterm_side width || nat_lt xterm_side height || (width == 0)

-- a number of the ratio is above the greatest that the model says
abbrev pub has_long_ratio : ℕ → ℕ → Bool
has_long_ratio pan pad = nat_lt xterm_number pan || nat_lt xterm_number pad

-- if the height is missing the sides don't count, and if it is written as 0 it ends the string: events don't tell
abbrev pub xterm_raster : Attributes → Reads
xterm_raster a =
    if has_no_ratio a.pan a.pad then Stops
    else if has_long_ratio a.pan a.pad || (a.height == 0) then Unsaid
    else if ends_xterm a.width a.height then Stops
    else Nothing

-- ---- colours

-- one of the numbers is above the greatest that the model says
abbrev pub is_beyond_xterm : ℕ → Definition → Bool
is_beyond_xterm register d =
    nat_lt xterm_number register || nat_lt xterm_number d.system || nat_lt xterm_number d.x
    || nat_lt xterm_number d.y || nat_lt xterm_number d.z

-- it gives a colour in range, in a system that there is
abbrev pub is_xterm_colour : Definition → Bool
is_xterm_colour d = option_map_or is_colour (colour_in d.system d.x d.y d.z) false

-- a hue is taken down to a multiple of 60
abbrev pub xterm_x : ℕ → ℕ → ℕ
xterm_x system x = if system == 1 then x / 60 * 60 else x

abbrev pub xterm_define : ℕ → Definition → Reads
xterm_define register d =
    if is_beyond_xterm register d then Unsaid
    else if is_xterm_colour d then Draws (Define (register % xterm_registers) d.system (xterm_x d.system d.x) d.y d.z)
    else Stops

abbrev pub xterm_select : ℕ → Reads
xterm_select register =
    if nat_lt xterm_number register then Unsaid else Draws (Select (register % xterm_registers))

-- ---- data

-- the sides of the box that an event declares; 0 if it declares none
abbrev pub width_of : Event → ℕ
width_of e = option_map_or (λ (a : Attributes). a.width) (raster_of e) 0

abbrev pub height_of : Event → ℕ
height_of e = option_map_or (λ (a : Attributes). a.height) (raster_of e) 0

-- the box as wide as the widest and as high as the highest before
abbrev pub xterm_box : List Event → Command
xterm_box before = Raster 1 1 (greatest width_of before) (greatest height_of before)

-- a data command fills the box: the first one does, unless P2 is 1
abbrev pub fills_xterm : List Event → Bool
fills_xterm before = not (list_any is_data_command before) && not (second_parameter before == 1)

-- ---- room

-- the rows that are left for a data command
abbrev pub xterm_rows : List Event → ℕ
xterm_rows before = xterm_side - band_rows * band before

-- they are fewer than a band has: its band reaches past the last row
abbrev pub is_past_rows : List Event → Bool
is_past_rows before = nat_lt (xterm_rows before) band_rows

-- a data command with a set bit runs out of room past the last column, and in a band that reaches past the last row
abbrev pub runs_out : ℕ → Bool → Event → Bool
runs_out column is_past e = is_painting e && (is_past || nat_lt xterm_side (column + columns_of 0 e))

abbrev pub is_single : Event → Bool
is_single (Step (Sixel bits)) = true
is_single _ = false

-- the pen at this column of a band
abbrev pub pen_at : ℕ → Pen
pen_at column = record { column = column; returned = false; ended = false }

-- the pen after a data command. Without room a single sixel ends the string, and a repeat goes to the left margin
abbrev pub pen_after_data : Pen → Bool → Event → Pen
pen_after_data p is_past e =
    if not (runs_out p.column is_past e)
    then pen_at (min (p.column + columns_of 0 e) xterm_side)
    else if is_single e then record p { ended = true }
    else record (pen_at 0) { returned = true }

-- the pen after an event; once the string has ended it stays
abbrev pub pen_after : Pen → Bool → Event → Pen
pen_after p is_past e =
    if p.ended then p
    else if is_return e then pen_at 0
    else if is_data_command e then pen_after_data p is_past e
    else p

-- the pen after these events
unfoldable pub xterm_pen : List Event → Pen
xterm_pen before = after_each (λ p earlier e. pen_after p (is_past_rows earlier) e) (pen_at 0) before

-- ---- data

-- the columns that are left for a data command: one at most if its band reaches past the last row
abbrev pub xterm_columns : List Event → ℕ
xterm_columns before =
    min (if is_past_rows before then 1 else xterm_side) (xterm_side - (xterm_pen before).column)

-- what a data command of so many columns with these bits paints. Blanks stay, and move on
abbrev pub xterm_painting : List Event → Command → ℕ → ℕ → Command
xterm_painting before command count bits =
    if bits % 64 == 0 then command else kept (xterm_columns before) (xterm_rows before) command count bits

-- a repeat of 0 and one without a number are the same event, and xterm reads them in different ways
abbrev pub xterm_data : List Event → Command → ℕ → ℕ → Reads
xterm_data before command count bits =
    if count == 0 then Unsaid
    else if fills_xterm before then DrawsTwo (xterm_box before) (xterm_painting before command count bits)
    else if (xterm_pen before).returned then DrawsTwo CarriageReturn (xterm_painting before command count bits)
    else Draws (xterm_painting before command count bits)

-- ---- all events

-- what it makes of an event if the string goes on
abbrev pub xterm_reads : List Event → Event → Reads
xterm_reads before (Start eight parameters) = xterm_introducer parameters.items
xterm_reads before (Step (Raster pan pad width height)) =
    xterm_raster (record { pan = pan; pad = pad; width = width; height = height })
xterm_reads before (Step (Define register system x y z)) =
    xterm_define register (record { system = system; x = x; y = y; z = z })
xterm_reads before (Step (Select register)) = xterm_select register
xterm_reads before (Step (Sixel bits)) = xterm_data before (Sixel bits) 1 bits
xterm_reads before (Step (Repeat count bits)) = xterm_data before (Repeat count bits) count bits
xterm_reads before (Step CarriageReturn) = Draws CarriageReturn
xterm_reads before (Step NextLine) = Draws NextLine
xterm_reads before (Finish eight) = Nothing

abbrev pub xterm : Rule
xterm before e next = if (xterm_pen before).ended then Stops else xterm_reads before e

abbrev pub xterm_model : Model
xterm_model = record {
  rule = xterm;
  opening = no_opening;
  unsaid_introducer = true;
  unsaid_terminator = true;
}
