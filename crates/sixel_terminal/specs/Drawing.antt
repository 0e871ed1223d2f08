-- What a terminal shows after a list of events. Columns and rows are in pixels of the screen, from its top left. Points
-- are in the same pixels, from the origin of the picture.
use Rattle.std.specs.Prelude.{◌==◌, ◌&&◌, ◌||◌, ℕ, ◌+◌, ◌-◌, ◌*◌, ◌%◌, Bool, true, not, nat_le, Option, Some, None}
use Rattle.std.specs.Prelude.{IsSome, List, slice_index_or, unwrap_or, if◌then◌else◌}
use Rattle.std.specs.Bool.{then_some}
use Rattle.std.specs.List.{list_any}
use Rattle.std.specs.Option.{option_map, option_and_then, option_map_or}
use Rattle.sixel_grammar.specs.declared.command.Event.{Event}
use Rattle.sixel_model.specs.declared.colour.Parts.{Parts}
use Rattle.sixel_model.specs.declared.colour.Parts.TheVariants.{Rgb}
use Rattle.sixel_model.specs.Colours.{clamped, colour_in, is_colour}
use Rattle.sixel_model.specs.Events.{Attributes, Definition, definition_where, is_eight_bit, is_in_box, is_square}
use Rattle.sixel_model.specs.Events.{named_by, raster_of, select_of}
use Rattle.sixel_model.specs.Geometry.{touches}
use Rattle.sixel_model.specs.Positions.{HoldsAtPosition, last_at, latest}
use Rattle.sixel_model.specs.Rules.{raster_before}
use Rattle.sixel_model.specs.Grids.{row_by_row}
use Rattle.sixel_terminal.specs.declared.choices.Ground.{Ground}
use Rattle.sixel_terminal.specs.declared.choices.Ground.TheVariants.{Kept, Filled}
use Rattle.sixel_terminal.specs.Displays.{Display, registers_of}

-- the height of a sixel pixel: 1 if the last raster attributes before give the ratio as 1 to 1, otherwise the
-- terminal's own
unfoldable pub height_of : Display → List Event → ℕ
height_of t before =
    option_map_or (λ (a : Attributes). if is_square a then 1 else t.choices.tall) (latest raster_of before)
    t.choices.tall

-- the event is a data command that covers the point
unfoldable pub touches_on : Display → List Event → Event → ℕ → ℕ → Bool
touches_on t before e x y = touches t.choices.zero (height_of t before) before e x y

-- the point isn't clipped: on a terminal that clips, data commands paint only in the box of the first raster attributes
-- before them, if there are any
unfoldable pub is_kept_on : Display → List Event → ℕ → ℕ → Bool
is_kept_on t before x y =
    not t.choices.clips || option_map_or (λ a. is_in_box a x y) (raster_before before) true

-- whether the terminal sees the string: it has 8-bit controls, or no start or finish of the string is one. That a
-- terminal without them draws nothing of a string which only ends in one is an assumption of this model
unfoldable pub is_seen_on : Display → List Event → Bool
is_seen_on t events = t.choices.eight_bit || not (list_any is_eight_bit events)

-- the selected register: that of the last select, or of the last select or definition if definitions select too, modulo
-- the count of registers; without one, the register selected at the start
unfoldable pub selected_on : Display → List Event → ℕ
selected_on t before =
    option_map_or (λ r. r % registers_of t) (latest (if t.choices.selects then named_by else select_of) before)
    t.choices.selected

-- a colour as the terminal takes it: one out of range is clamped if `clamps`, otherwise ignored
abbrev pub taken_on : Display → Parts → Option Parts
taken_on t c = if is_colour c then Some c else if t.choices.clamps then Some (clamped c) else None

-- the colour that a definition gives, if it gives one
abbrev pub given_on : Display → Definition → Option Parts
given_on t d = option_and_then (taken_on t) (colour_in d.system d.x d.y d.z)

-- the colour that the event gives the register, if it defines it; the number is taken modulo the count of registers
abbrev pub defined_on : Display → ℕ → Event → Option Parts
defined_on t register e =
    option_and_then (given_on t) (definition_where (λ r. (r % registers_of t) == register) e)

-- the colour of a register: from its last definition that gives one, otherwise the starting colour
unfoldable pub map_on : Display → List Event → ℕ → Parts
map_on t before register =
    unwrap_or (latest (defined_on t register) before) (slice_index_or t.colours register (Rgb 0 0 0))

-- the register in which raster attributes fill the point: the ground's, if the terminal fills and the point is in their
-- box
abbrev pub filled_on : Ground → Event → ℕ → ℕ → Option ℕ
filled_on Kept e x y = None
filled_on (Filled register) e x y = option_and_then (λ a. then_some (is_in_box a x y) register) (raster_of e)

-- the register in which the event paints the point: the selected one, if the event covers the point and it isn't cut
-- off; otherwise as `filled_on`
abbrev pub paint_at : Display → List Event → Event → ℕ → ℕ → Option ℕ
paint_at t before e x y =
    if touches_on t before e x y && is_kept_on t before x y
    then Some (selected_on t before)
    else filled_on t.choices.ground e x y

-- the register in which the event paints the pixel in this column and row, on the screen or off it; none left of the
-- origin or above it. `paints_in` asks whether the terminal sees the string
unfoldable pub paints_on : Display → List Event → Event → ℕ → ℕ → Option ℕ
paints_on t before e x y =
    if nat_le t.choices.origin_x x && nat_le t.choices.origin_y y
    then paint_at t before e (x - t.choices.origin_x) (y - t.choices.origin_y)
    else None

-- None if the terminal doesn't see the string, whose events are `events`; otherwise as `paints_on`
abbrev pub paints_in : Display → List Event → List Event → Event → ℕ → ℕ → Option ℕ
paints_in t events before e x y = if is_seen_on t events then paints_on t before e x y else None

-- some event paints the pixel
unfoldable pub IsPainted : Display → List Event → ℕ → ℕ → Type 0
IsPainted t events x y =
    (i : ℕ) × HoldsAtPosition (λ before e. IsSome (paints_in t events before e x y)) events i

-- the colour in which the event paints the pixel, if it does: the colour of its register before the event, or after all
-- events if the terminal binds at showing
abbrev pub inked_on : Display → List Event → ℕ → ℕ → List Event → Event → Option Parts
inked_on t events x y before e =
    option_map (map_on t (if t.choices.binds_at_showing then events else before)) (paints_in t events before e x y)

-- the colour of a pixel of the screen before the events
abbrev pub stood_on : Display → ℕ → ℕ → Parts
stood_on t x y = slice_index_or t.screen (y * t.choices.screen_width + x) (Rgb 0 0 0)

-- the colour that a pixel of the screen shows: that of the last painting, or the one before the events
unfoldable pub shown_on : Display → List Event → ℕ → ℕ → Parts
shown_on t events x y = unwrap_or (last_at (inked_on t events x y) events) (stood_on t x y)

-- the colours shown on the whole screen, row by row
unfoldable pub screen_on : Display → List Event → List Parts
screen_on t events = row_by_row t.choices.screen_width t.choices.screen_height (shown_on t events)
