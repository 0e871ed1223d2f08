-- The mended picture of a string, and why there is none.
use Rattle.std.specs.Prelude.{◌≡◌, ◌==◌, ◌&&◌, ◌||◌, ℕ, IsTrue, List, Result, Ok, Err, length, nat_lt, if◌then◌else◌}
use Rattle.sixel_grammar.specs.declared.command.Event.{Event}
use Rattle.sixel_grammar.specs.declared.command.Placed.{Placed}
use Rattle.sixel_grammar.specs.Document.{Document, events_of}
use Rattle.sixel_grammar.specs.Faults.{IsFaultOf}
use Rattle.sixel_model.specs.Pictures.{PictureValue, is_side, most_side}
use Rattle.sixel_model.specs.declared.colour.Parts.{Parts}
use Rattle.sixel_ppm.specs.PpmReading.{distinct, picture_of}
use Rattle.sixel_terminal.specs.Drawing.{screen_on}
use Rattle.sixel_mend.specs.declared.mending.MendFault.{MendFault}
use Rattle.sixel_mend.specs.declared.mending.MendFault.TheVariants.{Grammar, Empty, TooLarge, TooManyColours}
use Rattle.sixel_mend.specs.declared.mending.MendFault.TheVariants.{OutOfMemory}
use Rattle.sixel_mend.specs.declared.mending.Mended.{Mended}
use Rattle.sixel_mend.specs.declared.mending.Mending.{Mending}
use Rattle.sixel_mend.specs.Painted.{hidden_pixels}
use Rattle.sixel_mend.specs.Screens.{mending_terminal}
use Rattle.sixel_mend.specs.Sizes.{IsSize}

-- the colours that the terminal shows after the events, row by row
abbrev pub mended_colours : Mending → List Event → ℕ → ℕ → List Parts
mended_colours m events width height = screen_on (mending_terminal m width height) events

-- the picture of this size with at most `registers` colours, or the first reason why there is none. Its pixels have the
-- colours that the terminal shows. They get registers from 0 on, in the order in which they first appear row by row,
-- and the palette has exactly these
unfoldable pub mended : ℕ → Mending → List Event → ℕ → ℕ → Result PictureValue MendFault
mended registers m events width height =
    if (width == 0) || (height == 0) then Err Empty
    else if nat_lt most_side width || nat_lt most_side height then Err TooLarge
    else if nat_lt registers (length (distinct (mended_colours m events width height))) then Err TooManyColours
    else Ok (picture_of registers width height (mended_colours m events width height))

-- what mending gives for these events: the picture in their size, or the reason
abbrev pub MendsEvents : ℕ → Mending → List Event → Result PictureValue MendFault → Type 0
MendsEvents registers m events answer =
    (width : ℕ) × (height : ℕ) × IsSize m events width height × (answer ≡ mended registers m events width height)

-- the size of these events is one that a picture may have
abbrev pub HasSides : Mending → List Event → Type 0
HasSides m events =
    (width : ℕ) × (height : ℕ) × IsSize m events width height × IsTrue (is_side width && is_side height)

-- what mending gives for these bytes. Grammar: the fault of bytes that are no document; OutOfMemory: only for a
-- document whose size a picture may have; any other answer: that for the document's events
abbrev pub Mends : ℕ → Mending → List ℕ → Result PictureValue MendFault → Type 0
Mends registers m bytes (Err (Grammar fault)) = IsFaultOf bytes fault
Mends registers m bytes (Err OutOfMemory) =
    (events : List Placed) × Document events bytes × HasSides m (events_of events)
Mends registers m bytes answer =
    (events : List Placed) × Document events bytes × MendsEvents registers m (events_of events) answer

-- the picture is the one that mending gives for these events, and the number that of its hidden pixels
abbrev pub MendsEventsNoting : ℕ → Mending → List Event → Mended → Type 0
MendsEventsNoting registers m events answer =
    (width : ℕ) × (height : ℕ) × IsSize m events width height
    × (Ok answer.picture ≡ mended registers m events width height)
    × (answer.hidden ≡ hidden_pixels m events width height)

-- what mending gives for these bytes, with the number of painted pixels that look like those that aren't painted
abbrev pub MendsNoting : ℕ → Mending → List ℕ → Result Mended MendFault → Type 0
MendsNoting registers m bytes (Err fault) = Mends registers m bytes (Err fault)
MendsNoting registers m bytes (Ok answer) =
    (events : List Placed) × Document events bytes × MendsEventsNoting registers m (events_of events) answer
