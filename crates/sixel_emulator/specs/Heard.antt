-- What a terminal hears of a document. xterm and mlterm take a select without a number as raster attributes of zeros: the
-- string of xterm ends there, and what mlterm makes of it isn't said. Of raster attributes with fewer than four numbers
-- xterm takes no more than a ratio. konsole takes two numbers for the ratio of a box of 8 by 6 pixels.
use Rattle.std.specs.Prelude.{◌≡◌, ◌==◌, ◌&&◌, ◌||◌, ℕ, Bool, not, List, [], ◌∷◌, Option, Some, None, filter, flat_map}
use Rattle.std.specs.Prelude.{IfSome, length, nat_lt, slice_get, if◌then◌else◌}
use Rattle.std.specs.List.{range_with_len}
use Rattle.sixel_grammar.specs.declared.command.Command.TheVariants.{Raster, Select}
use Rattle.sixel_grammar.specs.declared.command.Event.{Event}
use Rattle.sixel_grammar.specs.declared.command.Event.TheVariants.{Step}
use Rattle.sixel_grammar.specs.declared.command.Placed.{Placed}
use Rattle.sixel_grammar.specs.Document.{Document}
use Rattle.sixel_model.specs.Events.{Attributes}
use Rattle.sixel_omissions.specs.declared.raster.WrittenRaster.{WrittenRaster}
use Rattle.sixel_omissions.specs.Omissions.{is_bare_at}
use Rattle.sixel_omissions.specs.Rasters.{first_raster, has_four, has_two}
use Rattle.sixel_emulator.specs.declared.hearing.Hearing.{Hearing}
use Rattle.sixel_emulator.specs.declared.hearing.Hears.{Hears}
use Rattle.sixel_emulator.specs.declared.hearing.Hears.TheVariants.{Boxes, Events, Selects, SelectsAndRasters}
use Rattle.sixel_emulator.specs.declared.hearing.Omitted.{Omitted}
use Rattle.sixel_emulator.specs.declared.hearing.RasterHeard.{RasterHeard}
use Rattle.sixel_emulator.specs.declared.hearing.RasterHeard.TheVariants.{AsTheyAre, Box, Ratio}
use Rattle.sixel_emulator.specs.Modelled.{placed_at}

-- raster attributes of zeros
abbrev pub zeros : Event
zeros = Step (Raster 0 0 0 0)

-- ---- selects

-- what is heard of a select at this offset, if the select at the other one has no number
abbrev pub heard_select : Option ℕ → ℕ → ℕ → Event
heard_select None place register = Step (Select register)
heard_select (Some bare) place register = if place == bare then zeros else Step (Select register)

-- ---- raster attributes

-- a ratio is taken if its numbers are from 1 to this
abbrev pub greatest_ratio : ℕ
greatest_ratio = 32767

abbrev pub is_taken : ℕ → ℕ → Bool
is_taken pan pad =
    not ((pan == 0) || (pad == 0)) && not (nat_lt greatest_ratio pan || nat_lt greatest_ratio pad)

-- this is written of raster attributes at this offset, and they have a height of 0: a written one, or none
abbrev pub is_without_height : WrittenRaster → ℕ → Attributes → Bool
is_without_height written place a = (place == written.place) && (a.height == 0)

-- raster attributes as they are
abbrev pub as_it_is : Attributes → Event
as_it_is a = Step (Raster a.pan a.pad a.width a.height)

-- what is heard of raster attributes at this offset. Ratio: of a ratio that is taken nothing, and if a height is written
-- as 0 zeros. Box: of two numbers a box of 8 by 6 pixels
abbrev pub heard_raster : RasterHeard → ℕ → Attributes → List Event
heard_raster AsTheyAre place a = as_it_is a ∷ []
heard_raster (Ratio written) place a =
    if not (is_without_height written place a && is_taken a.pan a.pad) then as_it_is a ∷ []
    else if has_four written then zeros ∷ []
    else []
heard_raster (Box written) place a =
    if is_without_height written place a && has_two written
    then Step (Raster a.pan a.pad 8 6) ∷ []
    else as_it_is a ∷ []

-- ---- all events

-- what is heard of an event
abbrev pub heard_event : Omitted → ℕ → Event → List Event
heard_event omitted place (Step (Select register)) = heard_select omitted.bare place register ∷ []
heard_event omitted place (Step (Raster pan pad width height)) =
    heard_raster omitted.raster place (record { pan = pan; pad = pad; width = width; height = height })
heard_event omitted place e = e ∷ []

-- these events with this offset
abbrev pub all_at : ℕ → List Event → List Placed
all_at place [] = []
all_at place (e ∷ es) = placed_at place e ∷ all_at place es

-- what is heard of these events
abbrev pub heard : Omitted → List Placed → List Placed
heard omitted placed = flat_map (λ (p : Placed). all_at p.place (heard_event omitted p.place p.event)) placed

-- ---- a document

-- the offset of the first select without a number, if there is one
abbrev pub first_bare : List ℕ → Option ℕ
first_bare bytes = slice_get (filter (is_bare_at bytes) (range_with_len 0 (length bytes))) 0

abbrev pub nothing_omitted : Omitted
nothing_omitted = record { bare = None; raster = AsTheyAre }

-- how the first raster attributes are heard, if this is written of them
abbrev pub as_ratio : Option WrittenRaster → RasterHeard
as_ratio None = AsTheyAre
as_ratio (Some written) = Ratio written

abbrev pub as_box : Option WrittenRaster → RasterHeard
as_box None = AsTheyAre
as_box (Some written) = Box written

-- what is omitted in these bytes, of that which the terminal hears otherwise
abbrev pub omitted_in : Hears → List ℕ → Omitted
omitted_in Events bytes = nothing_omitted
omitted_in Selects bytes = record { bare = first_bare bytes; raster = AsTheyAre }
omitted_in SelectsAndRasters bytes = record { bare = first_bare bytes; raster = as_ratio (first_raster bytes) }
omitted_in Boxes bytes = record { bare = None; raster = as_box (first_raster bytes) }

-- the events of these bytes, as a terminal hears them
abbrev pub heard_in : Hears → List ℕ → List Placed → List Placed
heard_in Events bytes placed = placed
heard_in Selects bytes placed = heard (omitted_in Selects bytes) placed
heard_in SelectsAndRasters bytes placed = heard (omitted_in SelectsAndRasters bytes) placed
heard_in Boxes bytes placed = heard (omitted_in Boxes bytes) placed

-- what was `first` before these events is `now` after them: it took what is heard of them. Both hear the same otherwise
abbrev pub HasHeardOn : {F : Type 0} → (F → F → List Placed → Type 0) → Hearing F → Hearing F → List Placed → Type 0
HasHeardOn has_taken first now seen =
    (now.omitted ≡ first.omitted) × has_taken first.listener now.listener (heard first.omitted seen)

-- the bytes of a source, which are these if they are known, are a document. What was `first` before its events is `now`
-- after those that are heard
pub record HasHeard {F : Type 0} (has_taken : F → F → List Placed → Type 0) (hears : Hears) (first now : F)
    (known : Option (List ℕ)) : Type 0 where
  pub events : List Placed
  pub bytes : List ℕ
  pub document : Document events bytes
  pub taken : has_taken first now (heard_in hears bytes events)
  pub known_are : IfSome known (λ given. given ≡ bytes)
