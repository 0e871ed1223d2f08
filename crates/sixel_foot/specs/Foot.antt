-- foot 1.13.1. A select takes the colour that its register has then: the pen. A definition doesn't select. The box is
-- filled with the background, which on a screen of one colour is kept. The picture has a size, and of the band in which
-- it ends, what is painted below it is lost.
use Rattle.std.specs.Prelude.{◌==◌, ◌&&◌, ◌||◌, ℕ, ◌+◌, ◌-◌, ◌*◌, Bool, true, false, List, Option}
use Rattle.std.specs.Prelude.{max, min, nat_le, nat_lt, slice_index_or, if◌then◌else◌}
use Rattle.std.specs.List.{list_any}
use Rattle.std.specs.Option.{option_and_then, option_map_or}
use Rattle.sixel_grammar.specs.declared.command.Command.{Command}
use Rattle.sixel_grammar.specs.declared.command.Command.TheVariants.{Sixel, Repeat, Raster, Select, Define}
use Rattle.sixel_grammar.specs.declared.command.Command.TheVariants.{CarriageReturn, NextLine}
use Rattle.sixel_grammar.specs.declared.command.Event.{Event}
use Rattle.sixel_grammar.specs.declared.command.Event.TheVariants.{Start, Step, Finish}
use Rattle.sixel_model.specs.declared.colour.Parts.{Parts}
use Rattle.sixel_model.specs.Events.{Definition, definition_where, is_finish, is_painting}
use Rattle.sixel_model.specs.Geometry.{band, band_rows, column}
use Rattle.sixel_model.specs.Positions.{latest}
use Rattle.sixel_emulator.specs.declared.reading.Reads.{Reads}
use Rattle.sixel_emulator.specs.declared.reading.Reads.TheVariants.{Nothing, Draws, DrawsTwo, Unsaid}
use Rattle.sixel_emulator.specs.Readings.{Model, Rule, no_opening}
use Rattle.sixel_emulator.specs.Words.{after_each, defining, kept, nearest}

-- ---- colours

-- there are 1,024 registers; the last one stands for greater numbers
abbrev pub foot_register : ℕ → ℕ
foot_register register = min register 1023

-- the colour that the event gives the register, if it defines it in a system that there is
abbrev pub foot_gives : ℕ → Event → Option Parts
foot_gives register e =
    option_and_then (λ (d : Definition). nearest d.system d.x d.y d.z)
    (definition_where (λ r. foot_register r == register) e)

-- the colour of the register, if it has one: that of its last definition that gives one
abbrev pub foot_colour : List Event → ℕ → Option Parts
foot_colour before register = latest (foot_gives register) before

-- the registers of the plain terminal that draws: the pen, and one that stands for what was never defined
abbrev pub foot_pen : ℕ
foot_pen = 0

abbrev pub foot_undefined : ℕ
foot_undefined = 1

-- by the introducer: what was never defined paints the background if P2 is 1, otherwise black
abbrev pub foot_introducer : ℕ → Reads
foot_introducer second = if second == 1 then Nothing else Draws (Define foot_undefined 2 0 0 0)

-- the pen takes the colour that the register has by now
abbrev pub foot_select : List Event → ℕ → Reads
foot_select before register =
    option_map_or (λ colour. DrawsTwo (defining foot_pen colour) (Select foot_pen))
    (foot_colour before (foot_register register)) (Draws (Select foot_undefined))

-- ---- the size

-- the size of the picture, in pixels
pub record Size : Type 0 where
  pub width : ℕ
  pub height : ℕ

-- at the start the picture has a band, and no column
abbrev pub foot_start : Size
foot_start = record { width = 0; height = band_rows }

-- the largest side of raster attributes that count
abbrev pub foot_side : ℕ
foot_side = 10000

-- raster attributes count if no side is above the largest, their width is no less than the height of the picture, and
-- their height no less than its width, and not 0: this is how foot compares
abbrev pub counts_on_foot : Size → ℕ → ℕ → Bool
counts_on_foot s width height =
    nat_le (max width height) foot_side && (nat_le s.height width && nat_le (max 1 s.width) height)

-- the size with one more event: that of raster attributes that count; as wide as the data; and once a new line leaves
-- the picture, as high as the bands
abbrev pub foot_grows : Size → List Event → Event → Size
foot_grows s before (Step (Raster pan pad width height)) =
    if counts_on_foot s width height then record { width = width; height = height } else s
foot_grows s before (Step (Sixel bits)) = record s { width = max s.width (column 1 before + 1) }
foot_grows s before (Step (Repeat count bits)) = record s { width = max s.width (column 1 before + max 1 count) }
foot_grows s before (Step NextLine) =
    if nat_le s.height (band_rows * band before + band_rows)
    then record s { height = band_rows * band before + 2 * band_rows }
    else s
foot_grows s before _ = s

-- the size after the events
abbrev pub foot_size : List Event → Size
foot_size before = after_each foot_grows foot_start before

-- something is painted, or the next sixel isn't in the first band
abbrev pub has_begun_on_foot : List Event → Bool
has_begun_on_foot before = list_any is_painting before || nat_lt 0 (band before)

-- the picture gets narrower or lower
abbrev pub cuts_on_foot : Size → ℕ → ℕ → Bool
cuts_on_foot s width height = nat_lt width s.width || nat_lt height s.height

-- the terminator is next
abbrev pub is_last : Option Event → Bool
is_last next = option_map_or is_finish next false

-- they count, and cut off what is painted
abbrev pub spoils_on_foot : List Event → ℕ → ℕ → Bool
spoils_on_foot before width height =
    counts_on_foot (foot_size before) width height && cuts_on_foot (foot_size before) width height
    && has_begun_on_foot before

-- raster attributes draw nothing. If they cut off what is painted, the model ends; as the last command they don't count
abbrev pub foot_raster : List Event → ℕ → ℕ → Option Event → Reads
foot_raster before width height next =
    if is_last next then Nothing else if spoils_on_foot before width height then Unsaid else Nothing

-- ---- data

-- how many rows the picture has from the top of the band on
abbrev pub foot_rows : List Event → ℕ
foot_rows before = (foot_size before).height - band_rows * band before

-- what a data command of so many columns with these bits paints
abbrev pub foot_data : List Event → Command → ℕ → ℕ → Reads
foot_data before command count bits = Draws (kept count (foot_rows before) command count bits)

-- ---- all events

-- a repeat of 0 has one column
abbrev pub foot : Rule
foot before (Start eight parameters) next = foot_introducer (slice_index_or parameters.items 1 0)
foot before (Step (Raster pan pad width height)) next = foot_raster before width height next
foot before (Step (Define register system x y z)) next = Nothing
foot before (Step (Select register)) next = foot_select before register
foot before (Step (Sixel bits)) next = foot_data before (Sixel bits) 1 bits
foot before (Step (Repeat count bits)) next = foot_data before (Repeat (max 1 count) bits) (max 1 count) bits
foot before (Step CarriageReturn) next = Draws CarriageReturn
foot before (Step NextLine) next = Draws NextLine
foot before (Finish eight) next = Nothing

abbrev pub foot_model : Model
foot_model = record {
  rule = foot;
  opening = no_opening;
  unsaid_introducer = true;
  unsaid_terminator = false;
}
