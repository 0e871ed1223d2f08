-- What konsole 22.12.3 makes of the events of a string. A definition selects its register. A pixel has the colour that
-- its register has at the end. The picture is one rectangle from the origin, filled with register 0 under all that is
-- painted.
use Rattle.std.specs.Prelude.{◌≡◌, ◌==◌, ◌&&◌, ◌||◌, ℕ, zero, suc, ◌+◌, ◌*◌, ◌/◌, ◌%◌, Bool, true, false, not, is_none}
use Rattle.std.specs.Prelude.{is_some, List, [], ◌∷◌, ◌++◌, Option, Some, None, flat_map, length, max, min, nat_lt}
use Rattle.std.specs.Prelude.{slice_get, take, if◌then◌else◌}
use Rattle.std.specs.List.{list_any, range_with_len}
use Rattle.std.specs.Option.{option_map_or, option_and_then, option_or, option_to_list}
use Rattle.sixel_grammar.specs.declared.command.Command.{Command}
use Rattle.sixel_grammar.specs.declared.command.Command.TheVariants.{Sixel, Repeat, Raster, Select, Define}
use Rattle.sixel_grammar.specs.declared.command.Command.TheVariants.{CarriageReturn, NextLine}
use Rattle.sixel_grammar.specs.declared.command.Event.{Event}
use Rattle.sixel_grammar.specs.declared.command.Event.TheVariants.{Start, Step, Finish}
use Rattle.sixel_model.specs.declared.colour.Parts.{Parts}
use Rattle.sixel_model.specs.Events.{Attributes, columns_of, is_data_command, is_finish, is_return, named_by, raster_of}
use Rattle.sixel_model.specs.Geometry.{band, band_rows, column}
use Rattle.sixel_model.specs.Positions.{any_below, since}
use Rattle.sixel_emulator.specs.declared.reading.Reads.{Reads}
use Rattle.sixel_emulator.specs.declared.reading.Reads.TheVariants.{Nothing, Draws, DrawsTwo, Unsaid}
use Rattle.sixel_emulator.specs.Readings.{Model, Rule, drawn_by}
use Rattle.sixel_emulator.specs.Words.{defining, nearest}

-- ---- events with the one after each

-- the event after position i; `next` is the one after the last
abbrev pub event_after : List Event → Option Event → ℕ → Option Event
event_after events next i = slice_get (events ++ option_to_list next) (i + 1)

-- some event passes, given the events before it and the one after it
unfoldable pub any_followed : (List Event → Event → Option Event → Bool) → List Event → Option Event → Bool
any_followed p events next =
    any_below (length events)
    (λ i. option_map_or (λ e. p (take i events) e (event_after events next i)) (slice_get events i) false)

-- the result of f for the first number below n that has one
unfoldable pub first_below : {A : Type 0} → ℕ → (ℕ → Option A) → Option A
first_below zero f = None
first_below (suc n) f = option_or (first_below n f) (f n)

-- the result of f for the first event that has one, given the events before it and the one after it
unfoldable pub first_followed : {A : Type 0} → (List Event → Event → Option Event → Option A) → List Event
    → Option Event → Option A
first_followed f events next =
    first_below (length events)
    (λ i. option_and_then (λ e. f (take i events) e (event_after events next i)) (slice_get events i))

-- ---- what is dropped

-- the event after goes to the left margin, or ends the string
abbrev pub moves_or_ends : Option Event → Bool
moves_or_ends next = option_map_or (λ e. is_return e || is_finish e) next false

-- a definition in a colour system but 1 and 2
abbrev pub has_unknown_system : Event → Bool
has_unknown_system (Step (Define register system x y z)) = not (system == 1) && not (system == 2)
has_unknown_system _ = false

-- after a definition in an unknown colour system all is dropped, up to the next return or new line
unfoldable pub is_stuck : List Event → Bool
is_stuck before = list_any has_unknown_system (since is_return before)

-- selects, definitions and raster attributes wait for the command after them; a return, a new line or the terminator
-- drops them
abbrev pub is_dropped : List Event → Option Event → Bool
is_dropped before next = moves_or_ends next || is_stuck before

-- ---- whether the picture has begun

-- raster attributes with a width
abbrev pub has_width : Event → Bool
has_width e = option_map_or (λ (a : Attributes). not (a.width == 0)) (raster_of e) false

-- a select or a definition, even a dropped one, begins the picture; so do raster attributes with a width and data
-- commands that aren't dropped
abbrev pub begins : List Event → Event → Option Event → Bool
begins before e next =
    is_some (named_by e) || (has_width e && not (is_dropped before next))
    || (is_data_command e && not (is_stuck before))

-- some event begins the picture; `next` is the event after them
unfoldable pub has_begun : List Event → Option Event → Bool
has_begun events next = any_followed begins events next

-- ---- the raster attributes that count

-- a select, a definition or a data command
abbrev pub is_late : Event → Bool
is_late e = is_some (named_by e) || is_data_command e

-- some event is a select, a definition or a data command
unfoldable pub has_late : List Event → Bool
has_late before = list_any is_late before

-- raster attributes may count if they have a width, aren't dropped, and come before any select, definition or data
-- command
abbrev pub may_count : List Event → Event → Option Event → Option Attributes
may_count before (Step (Raster pan pad width height)) next =
    if (width == 0) || (moves_or_ends next || has_late before)
    then None
    else Some (record { pan = pan; pad = pad; width = width; height = height })
may_count before _ next = None

-- those that count: the first that may
unfoldable pub counting : List Event → Option Event → Option Attributes
counting events next = first_followed may_count events next

-- the ratio is a whole number, or one of its numbers is 0
abbrev pub is_whole : Attributes → Bool
is_whole a = (a.pan == 0) || ((a.pad == 0) || (a.pan % a.pad == 0))

-- the height of a sixel pixel
abbrev pub ratio_of : Attributes → ℕ
ratio_of a = if (a.pan == 0) || (a.pad == 0) then 1 else a.pan / a.pad

-- ---- the rule

-- raster attributes: whether all is dropped, and whether these count if they aren't. A height of 0 is unsaid: a written
-- one and a missing one differ
abbrev pub konsole_raster : Bool → Bool → Attributes → Reads
konsole_raster stuck counts a =
    if stuck then Nothing else if (a.height == 0) || (counts && not (is_whole a)) then Unsaid else Nothing

-- a select; a register above 255 is ignored
abbrev pub konsole_select : Bool → ℕ → Reads
konsole_select dropped register = if dropped || nat_lt 255 register then Nothing else Draws (Select register)

-- a percentage of red, green or blue is above 100
abbrev pub is_above : ℕ → ℕ → ℕ → ℕ → Bool
is_above system x y z = (system == 2) && (nat_lt 100 x || (nat_lt 100 y || nat_lt 100 z))

-- a definition with this colour selects the register; one without a colour does nothing
abbrev pub colour_and_select : ℕ → Option Parts → Reads
colour_and_select register None = Nothing
colour_and_select register (Some colour) = DrawsTwo (defining register colour) (Select register)

-- a definition; here too a register above 255 is ignored. RGB above 100 percent is unsaid
abbrev pub konsole_define : Bool → ℕ → ℕ → ℕ → ℕ → ℕ → Reads
konsole_define dropped register system x y z =
    if dropped || nat_lt 255 register
    then Nothing
    else if is_above system x y z then Unsaid else colour_and_select register (nearest system x y z)

-- a data command, unless all is dropped
abbrev pub konsole_data : Bool → Command → Reads
konsole_data stuck command = if stuck then Nothing else Draws command

-- a return or a new line before the picture has begun does nothing
abbrev pub konsole_move : Bool → Command → Reads
konsole_move begun command = if begun then Draws command else Nothing

-- what konsole makes of an event. A repeat of 0 has one column
abbrev pub konsole : Rule
konsole before (Start eight parameters) next = Nothing
konsole before (Step (Raster pan pad width height)) next =
    let e = Step (Raster pan pad width height) in
    konsole_raster (is_stuck before) (is_some (may_count before e next) && is_none (counting before (Some e)))
    (record { pan = pan; pad = pad; width = width; height = height })
konsole before (Step (Define register system x y z)) next =
    konsole_define (is_dropped before next) register system x y z
konsole before (Step (Select register)) next = konsole_select (is_dropped before next) register
konsole before (Step (Sixel bits)) next = konsole_data (is_stuck before) (Sixel bits)
konsole before (Step (Repeat count bits)) next = konsole_data (is_stuck before) (Repeat (max 1 count) bits)
konsole before (Step CarriageReturn) next = konsole_move (has_begun before (Some (Step CarriageReturn))) CarriageReturn
konsole before (Step NextLine) next = konsole_move (has_begun before (Some (Step NextLine))) NextLine
konsole before (Finish eight) next = Nothing

-- ---- the rectangle

-- what konsole draws of these events on the rectangle; `next` is the event after them
unfoldable pub konsole_drawing : List Event → Option Event → List Event
konsole_drawing events next =
    flat_map
    (λ i. option_map_or (λ e. drawn_by (konsole (take i events) e (event_after events next i))) (slice_get events i) [])
    (range_with_len 0 (length events))

-- the greatest value of f below n; 0 if there is none
unfoldable pub greatest_below : ℕ → (ℕ → ℕ) → ℕ
greatest_below zero f = 0
greatest_below (suc n) f = max (greatest_below n f) (f n)

-- the greatest value of f for an event and the events before it
unfoldable pub greatest_at : (List Event → Event → ℕ) → List Event → ℕ
greatest_at f events = greatest_below (length events) (λ i. option_map_or (f (take i events)) (slice_get events i) 0)

-- the column where a data command ends, with or without a set bit; 0 for any other event
abbrev pub column_after : List Event → Event → ℕ
column_after before e = if is_data_command e then column 1 before + columns_of 1 e else 0

-- the row where its band ends
abbrev pub row_after : List Event → Event → ℕ
row_after before e = if is_data_command e then band_rows * band before + band_rows else 0

-- the columns of the rectangle: those of the box, or 30 if no raster attributes count, and all that data commands reach
abbrev pub konsole_width : Option Attributes → List Event → ℕ
konsole_width counted drawing =
    max (option_map_or (λ (a : Attributes). a.width) counted 30) (greatest_at column_after drawing)

-- its rows of sixel pixels, likewise; without a box they are 6 at least
abbrev pub konsole_rows : Option Attributes → List Event → ℕ
konsole_rows counted drawing =
    max (option_map_or (λ (a : Attributes). a.height) counted 6) (greatest_at row_after drawing)

-- the height of a sixel pixel: the ratio of the raster attributes that count, or 1
abbrev pub konsole_tall : Option Attributes → ℕ
konsole_tall counted = option_map_or ratio_of counted 1

-- a side as raster attributes can say it; no screen is larger
abbrev pub side : ℕ → ℕ
side n = min n 65535

-- the rectangle as raster attributes: their ratio is the height of a sixel pixel to 1, and a plain terminal fills their
-- box
abbrev pub rectangle_of : Option Attributes → List Event → Command
rectangle_of counted drawing =
    Raster (konsole_tall counted) 1 (side (konsole_width counted drawing))
    (side (konsole_rows counted drawing * konsole_tall counted))

-- sixel pixels are one pixel high after these events, whatever follows
abbrev pub StaysLow : List Event → Type 0
StaysLow events = (later : List Event) → konsole_tall (counting (events ++ later) None) ≡ 1

-- a picture that hasn't begun has no rectangle
abbrev pub konsole_opening : List Event → List Event
konsole_opening events =
    if has_begun events None
    then Step (rectangle_of (counting events None) (konsole_drawing events None)) ∷ []
    else []

-- of 8-bit controls nothing is said
abbrev pub konsole_model : Model
konsole_model = record {
  rule = konsole;
  opening = konsole_opening;
  unsaid_introducer = true;
  unsaid_terminator = true;
}
