-- What one event does to what a terminal stores. Only contracts of private functions cite these. `Drawing` defines what
-- a terminal shows, without steps.
use Rattle.std.specs.Prelude.{◌&&◌, ℕ, ◌+◌, ◌-◌, ◌%◌, ◌^◌, Bool, List, Option, Some, None, min, nat_le, nat_lt}
use Rattle.std.specs.Prelude.{slice_index_or, unwrap_or, if◌then◌else◌}
use Rattle.std.specs.Option.{option_map, option_map_or, option_or}
use Rattle.sixel_grammar.specs.declared.command.Event.{Event}
use Rattle.sixel_model.specs.declared.colour.Parts.{Parts}
use Rattle.sixel_model.specs.declared.colour.Parts.TheVariants.{Rgb}
use Rattle.sixel_model.specs.Events.{Attributes, bits_of, columns_of, is_next_line, is_return, is_square, named_by}
use Rattle.sixel_model.specs.Events.{raster_of, select_of}
use Rattle.sixel_model.specs.Geometry.{covers}
use Rattle.sixel_terminal.specs.declared.pixel.Ink.{Ink}
use Rattle.sixel_terminal.specs.declared.pixel.Ink.TheVariants.{Fixed, Bound}
use Rattle.sixel_terminal.specs.declared.pen.Pen.{Pen}
use Rattle.sixel_terminal.specs.declared.pen.Sides.{Sides}
use Rattle.sixel_terminal.specs.declared.choices.Ground.{Ground}
use Rattle.sixel_terminal.specs.declared.choices.Ground.TheVariants.{Kept, Filled}
use Rattle.sixel_terminal.specs.Canvases.{laid_under}
use Rattle.sixel_terminal.specs.Displays.{Display, registers_of}
use Rattle.sixel_terminal.specs.Drawing.{filled_on}

-- the greatest column or band of a pen, which is off the screen of every `Terminal`
abbrev pub most : ℕ
most = 2 ^ 32 - 1

abbrev pub next_column : Display → Pen → Event → ℕ
next_column t p e = if is_return e then 0 else min (p.column + columns_of t.choices.zero e) most

abbrev pub next_band : Pen → Event → ℕ
next_band p e = min (p.band + (if is_next_line e then 1 else 0)) most

abbrev pub next_height : Display → Pen → Event → ℕ
next_height t p e =
    option_map_or (λ (a : Attributes). if is_square a then 1 else t.choices.tall) (raster_of e) p.height

abbrev pub next_selected : Display → Pen → Event → ℕ
next_selected t p e =
    option_map_or (λ r. r % registers_of t) ((if t.choices.selects then named_by else select_of) e) p.selected

-- the sides of the box that raster attributes declare
abbrev pub sides_of : Attributes → Sides
sides_of a = record { width = a.width; height = a.height }

abbrev pub next_declared : Pen → Event → Option Sides
next_declared p e = option_or p.declared (option_map sides_of (raster_of e))

-- the column and the row where data commands stop painting: the end of the screen, or the end of the declared box if
-- the terminal clips and the box ends first
abbrev pub right_edge : Display → Option Sides → ℕ
right_edge t declared =
    if t.choices.clips
    then option_map_or (λ (s : Sides). min t.choices.screen_width (t.choices.origin_x + s.width)) declared
    t.choices.screen_width
    else t.choices.screen_width

abbrev pub bottom_edge : Display → Option Sides → ℕ
bottom_edge t declared =
    if t.choices.clips
    then option_map_or (λ (s : Sides). min t.choices.screen_height (t.choices.origin_y + s.height)) declared
    t.choices.screen_height
    else t.choices.screen_height

-- the pixel is before both edges
abbrev pub is_before_edges : Display → Option Sides → ℕ → ℕ → Bool
is_before_edges t declared x y = nat_lt x (right_edge t declared) && nat_lt y (bottom_edge t declared)

-- the pixel is neither left of the origin nor above it
abbrev pub is_from_origin : Display → ℕ → ℕ → Bool
is_from_origin t x y = nat_le t.choices.origin_x x && nat_le t.choices.origin_y y

-- a data command of `count` columns with these bits paints the pixel
abbrev pub pen_covers : Display → Pen → ℕ → ℕ → ℕ → ℕ → Bool
pen_covers t p count bits x y =
    is_from_origin t x y
    && (covers p.column count p.band p.height bits (x - t.choices.origin_x) (y - t.choices.origin_y)
    && is_before_edges t p.declared x y)

-- the pixel is in a box of this size at the origin
abbrev pub box_covers : Display → ℕ → ℕ → ℕ → ℕ → Bool
box_covers t width height x y =
    is_from_origin t x y && (nat_lt (x - t.choices.origin_x) width && nat_lt (y - t.choices.origin_y) height)

-- the register in which the event paints the pixel
abbrev pub painted_by : Display → Pen → Event → ℕ → ℕ → Option ℕ
painted_by t p e x y =
    if is_from_origin t x y
    then if covers p.column (columns_of t.choices.zero e) p.band p.height (bits_of e)
    (x - t.choices.origin_x) (y - t.choices.origin_y)
    && is_before_edges t p.declared x y
    then Some p.selected
    else filled_on t.choices.ground e (x - t.choices.origin_x) (y - t.choices.origin_y)
    else None

-- the ink for painting in a register, if the registers have these colours
abbrev pub ink_by_colours : Display → List Parts → ℕ → Ink
ink_by_colours t colours r = if t.choices.binds_at_showing then Bound r else Fixed
    (slice_index_or colours r (Rgb 0 0 0))

-- the ink of the pixel after the event
abbrev pub ink_after_event : Display → Pen → List Parts → Event → ℕ → ℕ → Ink → Ink
ink_after_event t p colours e x y ink = unwrap_or (option_map (ink_by_colours t colours) (painted_by t p e x y)) ink

-- the ink of a pixel in a box that raster attributes before all events declare, if it had this ink without them
abbrev pub ink_over : Ground → Ink → Ink
ink_over Kept ink = ink
ink_over (Filled register) ink = laid_under (Bound register) ink
