-- What mlterm 3.9.0 makes of the events of a string. A definition selects its register. Raster attributes fill nothing:
-- they only make its buffer larger.
use Rattle.std.specs.Prelude.{◌==◌, ◌&&◌, ◌||◌, ℕ, ◌+◌, ◌*◌, ◌/◌, ◌%◌, Bool, true, false, not, nat_le, nat_lt, max}
use Rattle.std.specs.Prelude.{List, Option, Some, None, slice_index_or, unwrap_or, if◌then◌else◌}
use Rattle.std.specs.Bool.{then_some}
use Rattle.std.specs.Option.{option_and_then, option_map, option_map_or}
use Rattle.sixel_grammar.specs.declared.command.Command.{Command}
use Rattle.sixel_grammar.specs.declared.command.Command.TheVariants.{Sixel, Repeat, Raster, Select, Define}
use Rattle.sixel_grammar.specs.declared.command.Command.TheVariants.{CarriageReturn, NextLine}
use Rattle.sixel_grammar.specs.declared.command.Event.{Event}
use Rattle.sixel_grammar.specs.declared.command.Event.TheVariants.{Start, Step, Finish}
use Rattle.sixel_model.specs.declared.colour.Parts.{Parts}
use Rattle.sixel_model.specs.Events.{columns_of, is_painting, is_repeat_of_zero, named_by}
use Rattle.sixel_model.specs.Geometry.{band, band_rows, column}
use Rattle.sixel_model.specs.Positions.{latest}
use Rattle.sixel_emulator.specs.declared.reading.Reads.{Reads}
use Rattle.sixel_emulator.specs.declared.reading.Reads.TheVariants.{Nothing, Draws, DrawsTwo, Unsaid}
use Rattle.sixel_emulator.specs.Readings.{Model, Rule, no_opening}
use Rattle.sixel_emulator.specs.Words.{after_each, defining, nearest}

-- ---- the registers

-- there are 1,024 registers; a greater number is register 0
abbrev pub mlterm_register : ℕ → ℕ
mlterm_register number = if nat_lt number 1024 then number else 0

-- the selected register: the last one that a select or a definition names; 0 is selected at the start
abbrev pub mlterm_selected : List Event → ℕ
mlterm_selected before = option_map_or mlterm_register (latest named_by before) 0

-- the colour of a definition. System 9 is red, green and blue in percent, as system 2
abbrev pub mlterm_colour : ℕ → ℕ → ℕ → ℕ → Option Parts
mlterm_colour system x y z = nearest (if system == 9 then 2 else system) x y z

-- the register to which the event gives a colour, and whether the model says which: a definition in colour system 3 gives
-- samples, and no percentages
abbrev pub given_by : Event → Option (ℕ × Bool)
given_by (Step (Define number system x y z)) =
    if system == 3
    then Some (mlterm_register number, false)
    else option_map (λ (colour : Parts). (mlterm_register number, true)) (mlterm_colour system x y z)
given_by _ = None

-- whether the model says the colour that the event gives the register, if it gives it one
abbrev pub said_by : ℕ → Event → Option Bool
said_by register e = option_and_then (λ (g : ℕ × Bool). then_some (g.0 == register) g.1) (given_by e)

-- whether the model says the colour of the register: that of the last event that gives it one. Without one it is the
-- background or the text's colour, but above register 255 it is one of chance
unfoldable pub is_said_colour : List Event → ℕ → Bool
is_said_colour before register = unwrap_or (latest (said_by register) before) (nat_le register 255)

-- ---- the buffer

-- the memory that mlterm keeps the pixels of a picture in
pub record Buffer : Type 0 where
  -- its columns
  pub width : ℕ
  -- its rows
  pub height : ℕ
  -- how many pixels its block of memory has room for
  pub room : ℕ
  -- the greatest column at which a data command ended, with set bits or without
  pub reach : ℕ
  -- a new line has cut its width, as happens once
  pub cut : Bool

-- at the start there is none
abbrev pub no_buffer : Buffer
no_buffer = record { width = 0; height = 0; room = 0; reach = 0; cut = false }

-- a width and a height have more pixels than the buffer
abbrev pub has_more : Buffer → ℕ × ℕ → Bool
has_more b sides = nat_lt (b.width * b.height) (sides.0 * sides.1)

-- the buffer with these sides: more pixels have a block for just as many, others stay in theirs
abbrev pub resized : Buffer → ℕ × ℕ → Buffer
resized b sides =
    record b { width = sides.0; height = sides.1; room = if has_more b sides then sides.0 * sides.1 else b.room }

-- if it gets wider and more pixels, so many rows of the old block are copied to a new one: they are written past the
-- new one, or read past the old one
abbrev pub copies_past : Buffer → ℕ → ℕ × ℕ → Bool
copies_past b rows sides =
    (nat_lt 0 b.width && (nat_lt b.width sides.0 && has_more b sides))
    && (nat_lt sides.1 rows || nat_lt b.room (rows * b.width))

-- ---- the sides that raster attributes give it

-- a height in whole bands
abbrev pub in_bands : ℕ → ℕ
in_bands height = (height + 5) / band_rows * band_rows

-- the sides that raster attributes of this width and height give the buffer: no less than theirs, if neither is 0
abbrev pub raster_sides : Buffer → ℕ → ℕ → ℕ × ℕ
raster_sides b width height =
    if (width == 0) || (height == 0)
    then (b.width, b.height)
    else (max width b.width, max (in_bands height) b.height)

-- ---- the sides that data commands give it

-- the column at which a data command ends that begins in this one
abbrev pub end_of : ℕ → Event → ℕ
end_of left e = left + columns_of 0 e

-- the rows down to the end of the band
abbrev pub rows_to : ℕ → ℕ
rows_to line = band_rows * line + band_rows

-- it ends past column 32,767, or its band past row 32,767: mlterm may end
abbrev pub is_past_all : ℕ → ℕ → Bool
is_past_all end rows = nat_lt 32767 end || nat_lt 32767 rows

-- the height that it wants: with 516 rows more, if the band ends below the buffer
abbrev pub wanted_height : Buffer → ℕ → ℕ
wanted_height b rows = if nat_le rows b.height then b.height else b.height + 516

-- how many rows of 512 columns more the pixels of the buffer are
abbrev pub wider_rows : Buffer → ℕ
wider_rows b = b.width * b.height / (b.width + 512)

-- the height that it gets as it gets wider: that of no more pixels, if they go on for five rows past the band
abbrev pub wider_height : Buffer → ℕ → ℕ
wider_height b rows =
    if nat_le (rows + 5) (wider_rows b) then wider_rows b / band_rows * band_rows else wanted_height b rows

-- the sides that it gives the buffer: 512 columns more, if it ends right of it
abbrev pub data_sides : Buffer → ℕ → ℕ → ℕ × ℕ
data_sides b end rows =
    if nat_le end b.width then (b.width, wanted_height b rows) else (b.width + 512, wider_height b rows)

-- ---- what becomes of the buffer

-- a data command ended at this column
abbrev pub reaching : Buffer → ℕ → Buffer
reaching b end = record b { reach = max b.reach end }

-- a data command that may end mlterm leaves it as it is
abbrev pub with_data : Buffer → ℕ → ℕ → Buffer
with_data b end rows = if is_past_all end rows then b else reaching (resized b (data_sides b end rows)) end

-- a new line cuts its width to the reach, if that is less and not 0; the block stays
abbrev pub with_line : Buffer → Buffer
with_line b =
    if not b.cut && (nat_lt 0 b.reach && nat_lt b.reach b.width)
    then record b { width = b.reach; cut = true }
    else b

-- the buffer with one more event, by the events before
abbrev pub buffer_with : Buffer → List Event → Event → Buffer
buffer_with b before (Step (Raster pan pad width height)) = resized b (raster_sides b width height)
buffer_with b before (Step (Sixel bits)) = with_data b (column 0 before + 1) (rows_to (band before))
buffer_with b before (Step (Repeat count bits)) = with_data b (column 0 before + count) (rows_to (band before))
buffer_with b before (Step NextLine) = with_line b
buffer_with b before _ = b

-- the buffer after the events
abbrev pub mlterm_buffer : List Event → Buffer
mlterm_buffer before = after_each buffer_with no_buffer before

-- ---- data commands

-- it paints in a register of which the model doesn't say the colour
abbrev pub is_chance : Bool → Event → Bool
is_chance said e = is_painting e && not said

-- with these sides of the buffer, the band ends below it, and the picture may be lost; or the command paints and ends
-- right of it, and paints in other rows
abbrev pub is_outside : ℕ × ℕ → ℕ → ℕ → Event → Bool
is_outside sides end rows e = nat_lt sides.1 rows || (is_painting e && nat_lt sides.0 end)

-- pixels are copied past a block of memory, or the command is outside the buffer after it
abbrev pub is_lost : Buffer → ℕ → ℕ → Event → Bool
is_lost b end rows e =
    copies_past b rows (data_sides b end rows) || is_outside (data_sides b end rows) end rows e

-- the model doesn't say what mlterm does at a data command, by: the buffer, the column and the band of the command, and
-- whether the model says the colour of the selected register
abbrev pub is_unsaid_data : Buffer → ℕ → ℕ → Bool → Event → Bool
is_unsaid_data b left line said e =
    is_repeat_of_zero e || (is_past_all (end_of left e) (rows_to line)
    || (is_lost b (end_of left e) (rows_to line) e || is_chance said e))

abbrev pub mlterm_data : List Event → Command → Reads
mlterm_data before command =
    if is_unsaid_data (mlterm_buffer before) (column 0 before) (band before)
    (is_said_colour before (mlterm_selected before)) (Step command)
    then Unsaid
    else Draws command

-- ---- raster attributes

-- at raster attributes of these sides, pixels are copied past a block of memory
abbrev pub raster_copies_past : List Event → ℕ → ℕ → Bool
raster_copies_past before width height =
    copies_past (mlterm_buffer before) (rows_to (band before)) (raster_sides (mlterm_buffer before) width height)

-- ---- the introducer

-- the first digit of a number below 100,000 is 5
abbrev pub begins_with_five : ℕ → Bool
begins_with_five n = (n == 5) || ((n / 10 == 5) || ((n / 100 == 5) || ((n / 1000 == 5) || (n / 10000 == 5))))

-- the first two digits of a number of two to five digits
abbrev pub first_two : ℕ → ℕ
first_two n =
    if nat_lt n 100 then n else if nat_lt n 1000 then n / 10 else if nat_lt n 10000 then n / 100 else n / 1000

-- mlterm mixes colours if the digit after the first one of the introducer's numbers, or after the `;` behind that, is 5.
-- Zeros may stand before a number, so by these first parameters it may: the first is of one digit, and the second begins
-- with 5; or the second digit of the first is 5; or the first begins with 5, as in 05
abbrev pub may_mix : ℕ → ℕ → Bool
may_mix first second =
    begins_with_five first || (if nat_le first 9 then begins_with_five second else first_two first % 10 == 5)

abbrev pub mlterm_introducer : ℕ → ℕ → Reads
mlterm_introducer first second = if may_mix first second then Unsaid else Nothing

-- ---- the rule

-- a definition of this register, with this colour if it gives one, selects it
abbrev pub define_and_select : ℕ → Option Parts → Reads
define_and_select register None = Draws (Select register)
define_and_select register (Some colour) = DrawsTwo (defining register colour) (Select register)

-- What mlterm makes of an event. Unsaid are:
-- - an introducer by which it may mix colours;
-- - raster attributes of zeros only: if their numbers are missing, they swallow a byte;
-- - raster attributes at which pixels are copied past a block of memory;
-- - the data commands above
abbrev pub mlterm : Rule
mlterm before (Start eight parameters) next =
    mlterm_introducer (slice_index_or parameters.items 0 0) (slice_index_or parameters.items 1 0)
mlterm before (Step (Raster pan pad width height)) next =
    if ((pan == 0) && (pad == 0) && (width == 0) && (height == 0))
    || raster_copies_past before width height
    then Unsaid
    else Nothing
mlterm before (Step (Define register system x y z)) next =
    define_and_select (mlterm_register register) (mlterm_colour system x y z)
mlterm before (Step (Select register)) next = Draws (Select (mlterm_register register))
mlterm before (Step (Sixel bits)) next = mlterm_data before (Sixel bits)
mlterm before (Step (Repeat count bits)) next = mlterm_data before (Repeat count bits)
mlterm before (Step CarriageReturn) next = Draws CarriageReturn
mlterm before (Step NextLine) next = Draws NextLine
mlterm before (Finish eight) next = Nothing

-- both 8-bit controls are taken
abbrev pub mlterm_model : Model
mlterm_model = record { rule = mlterm; opening = no_opening; unsaid_introducer = false; unsaid_terminator = false }
