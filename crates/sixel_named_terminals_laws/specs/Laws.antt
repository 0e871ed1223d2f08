-- Strings that were shown on the real terminals, between ESC P and ESC \, and what the rules make of each; and laws
-- about any string.
use Rattle.std.specs.Prelude.{◌≡◌, ℕ, ◌+◌, ◌*◌, ◌++◌, false, List, [], ◌∷◌, Option, Some, None, is_some}
use Rattle.std.specs.Prelude.{◌⊎◌, length, replicate}
use Rattle.std.specs.List.{list_any}
use Rattle.sixel_grammar.specs.declared.command.Command.TheVariants.{CarriageReturn, Sixel, Repeat, Raster, Select}
use Rattle.sixel_grammar.specs.declared.command.Command.TheVariants.{Define, NextLine}
use Rattle.sixel_grammar.specs.declared.command.Event.{Event}
use Rattle.sixel_grammar.specs.declared.command.Event.TheVariants.{Start, Step, Finish}
use Rattle.sixel_grammar.specs.declared.command.Placed.{Placed}
use Rattle.sixel_grammar.specs.Document.{events_of}
use Rattle.sixel_emulator.specs.declared.reading.Reads.{Reads}
use Rattle.sixel_emulator.specs.declared.reading.Reads.TheVariants.{Nothing, Draws, DrawsTwo, Stops, Unsaid}
use Rattle.sixel_emulator.specs.declared.course.Course.TheVariants.{Goes, Stopped, Ended}
use Rattle.sixel_emulator.specs.Heard.{zeros}
use Rattle.sixel_emulator.specs.Modelled.{placed_at}
use Rattle.sixel_emulator.specs.Readings.{EndsAt, IsReading, IsSaid, Model, Rule, read_at, reading_below}
use Rattle.sixel_emulator.specs.Courses.{IsCourse}
use Rattle.sixel_model.specs.declared.colour.Parts.{Parts}
use Rattle.sixel_model.specs.Events.{raster_of}
use Rattle.sixel_model.specs.Geometry.{band, band_rows}
use Rattle.sixel_terminal.specs.Screens.{Shown}
use Rattle.sixel_named_terminals.specs.declared.named.Named.{Named}
use Rattle.sixel_named_terminals.specs.declared.named.Named.TheVariants.{Konsole, MlTerm, XTerm}
use Rattle.sixel_named_terminals.specs.Named.{IsScreenOn, heard_on, model_of}
use Rattle.sixel_foot.specs.Foot.{foot, foot_size}
use Rattle.sixel_konsole.specs.Konsole.{konsole, konsole_drawing, konsole_model, konsole_opening}
use Rattle.sixel_mlterm.specs.MlTerm.{mlterm}
use Rattle.sixel_xterm.specs.XTerm.{xterm}

-- whatever comes next
abbrev pub ReadsAs : Rule → List Event → Event → Reads → Type 0
ReadsAs rule before e reads = (next : Option Event) → rule before e next ≡ reads

-- ---- a select without a number

-- #1~#~
abbrev pub bare_bytes : List ℕ
bare_bytes = 35 ∷ 49 ∷ 126 ∷ 35 ∷ 126 ∷ []

-- its events, with their offsets
abbrev pub bare_placed : List Placed
bare_placed =
    placed_at 0 (Step (Select 1)) ∷ placed_at 2 (Step (Sixel 63)) ∷ placed_at 3 (Step (Select 0))
    ∷ placed_at 4 (Step (Sixel 63)) ∷ []

-- this is heard in place of the second select
abbrev pub BareIsHeardAs : Named → Event → Type 0
BareIsHeardAs named e =
    events_of (heard_on named bare_bytes bare_placed)
    ≡ Step (Select 1) ∷ Step (Sixel 63) ∷ e ∷ Step (Sixel 63) ∷ []

-- it ends xterm's string, wherever it stands
abbrev pub BareSelectStops : Type 0
BareSelectStops = BareIsHeardAs XTerm zeros × ((before : List Event) → ReadsAs xterm before zeros Stops)

-- and mlterm's model
abbrev pub BareSelectIsUnsaid : Type 0
BareSelectIsUnsaid = BareIsHeardAs MlTerm zeros × ((before : List Event) → ReadsAs mlterm before zeros Unsaid)

-- on the others it is #0
abbrev pub BareSelectIsZero : Named → Type 0
BareSelectIsZero named = BareIsHeardAs named (Step (Select 0))

-- ---- xterm

-- of these bytes and their events xterm hears these events
abbrev pub XTermHears : List ℕ → List Placed → List Event → Type 0
XTermHears bytes placed heard = events_of (heard_on XTerm bytes placed) ≡ heard

-- "1;1~ and "1;1;2000~ are the sixel alone
abbrev pub RatioIsNotHeard : Type 0
RatioIsNotHeard =
    XTermHears (34 ∷ 49 ∷ 59 ∷ 49 ∷ 126 ∷ [])
    (placed_at 0 (Step (Raster 1 1 0 0)) ∷ placed_at 4 (Step (Sixel 63)) ∷ []) (Step (Sixel 63) ∷ [])
    × XTermHears (34 ∷ 49 ∷ 59 ∷ 49 ∷ 59 ∷ 50 ∷ 48 ∷ 48 ∷ 48 ∷ 126 ∷ [])
    (placed_at 0 (Step (Raster 1 1 2000 0)) ∷ placed_at 9 (Step (Sixel 63)) ∷ []) (Step (Sixel 63) ∷ [])

-- "1;1;6;0~ ends the string: its height is written; "1;1;6;~ is the sixel alone
abbrev pub WrittenHeightStops : Type 0
WrittenHeightStops =
    XTermHears (34 ∷ 49 ∷ 59 ∷ 49 ∷ 59 ∷ 54 ∷ 59 ∷ 48 ∷ 126 ∷ [])
    (placed_at 0 (Step (Raster 1 1 6 0)) ∷ placed_at 8 (Step (Sixel 63)) ∷ []) (zeros ∷ Step (Sixel 63) ∷ [])
    × XTermHears (34 ∷ 49 ∷ 59 ∷ 49 ∷ 59 ∷ 54 ∷ 59 ∷ 126 ∷ [])
    (placed_at 0 (Step (Raster 1 1 6 0)) ∷ placed_at 7 (Step (Sixel 63)) ∷ []) (Step (Sixel 63) ∷ [])

-- "1~ ends it: one number is no ratio
abbrev pub OneNumberStops : Type 0
OneNumberStops =
    XTermHears (34 ∷ 49 ∷ 126 ∷ []) (placed_at 0 (Step (Raster 1 0 0 0)) ∷ placed_at 2 (Step (Sixel 63)) ∷ [])
    (Step (Raster 1 0 0 0) ∷ Step (Sixel 63) ∷ [])
    × ReadsAs xterm [] (Step (Raster 1 0 0 0)) Stops

-- of "1;1~"1;1~ the model says nothing at the second one
abbrev pub LaterRatioIsUnsaid : Type 0
LaterRatioIsUnsaid =
    XTermHears (34 ∷ 49 ∷ 59 ∷ 49 ∷ 126 ∷ 34 ∷ 49 ∷ 59 ∷ 49 ∷ 126 ∷ [])
    (placed_at 0 (Step (Raster 1 1 0 0)) ∷ placed_at 4 (Step (Sixel 63)) ∷ placed_at 5 (Step (Raster 1 1 0 0))
    ∷ placed_at 9 (Step (Sixel 63)) ∷ [])
    (Step (Sixel 63) ∷ Step (Raster 1 1 0 0) ∷ Step (Sixel 63) ∷ [])
    × ReadsAs xterm (Step (Sixel 63) ∷ []) (Step (Raster 1 1 0 0)) Unsaid

-- q#1@"1;1;1001;6@ keeps the first sixel
abbrev pub LargeSideStops : Type 0
LargeSideStops = ReadsAs xterm (Step (Select 1) ∷ Step (Sixel 1) ∷ []) (Step (Raster 1 1 1001 6)) Stops

-- q#1@"1;1;0;12@ keeps it, too
abbrev pub NoWidthStops : Type 0
NoWidthStops = ReadsAs xterm (Step (Select 1) ∷ Step (Sixel 1) ∷ []) (Step (Raster 1 1 0 12)) Stops

-- q"1;1;29;1"1;1;6;18#1@ fills 29 by 18
abbrev pub GreatestSidesFill : Type 0
GreatestSidesFill = ReadsAs xterm (Step (Raster 1 1 29 1) ∷ Step (Raster 1 1 6 18) ∷ Step (Select 1) ∷ [])
    (Step (Sixel 1)) (DrawsTwo (Raster 1 1 29 18) (Sixel 1))

-- q?"1;1;12;12@ fills nothing
abbrev pub BlankSixelIsFirst : Type 0
BlankSixelIsFirst = ReadsAs xterm (Step (Sixel 0) ∷ Step (Raster 1 1 12 12) ∷ []) (Step (Sixel 1)) (Draws (Sixel 1))

-- q#1!65535~ paints the first 1,000 columns
abbrev pub FarColumnsAreLost : Type 0
FarColumnsAreLost =
    ReadsAs xterm (Step (Select 1) ∷ []) (Step (Repeat 65535 63)) (DrawsTwo (Raster 1 1 0 0) (Repeat 1000 63))

-- 10;1q"1;1;6;6#1!6~ draws nothing
abbrev pub HighIntroducerStops : Type 0
HighIntroducerStops = ReadsAs xterm [] (Start false (record { items = 10 ∷ 1 ∷ [] })) Stops

-- 0q"1001;1;12;12#1~ is filled and painted
abbrev pub LongRatioIsTaken : Type 0
LongRatioIsTaken =
    ReadsAs xterm (Start false (record { items = 0 ∷ [] }) ∷ []) (Step (Raster 1001 1 12 12)) Nothing

-- 0;1q#1!1023@#2!50A: the second repeat begins at the left margin
abbrev pub FarRepeatReturns : Type 0
FarRepeatReturns =
    ReadsAs xterm
    (Start false (record { items = 0 ∷ 1 ∷ [] }) ∷ Step (Select 1) ∷ Step (Repeat 1023 1) ∷ Step (Select 2) ∷ [])
    (Step (Repeat 50 2)) (DrawsTwo CarriageReturn (Repeat 50 2))

-- 0;1q#1!1001?~-!8~ draws nothing
abbrev pub FarSixelStops : Type 0
FarSixelStops =
    ReadsAs xterm
    (Start false (record { items = 0 ∷ 1 ∷ [] }) ∷ Step (Select 1) ∷ Step (Repeat 1001 0) ∷ Step (Sixel 63) ∷ [])
    (Step NextLine) Stops

-- 166 bands of blanks, 996 rows: the next band reaches past row 1,000
abbrev pub above_the_last_band : List Event
above_the_last_band = Start false (record { items = 0 ∷ 1 ∷ [] }) ∷ Step (Select 1) ∷ replicate 166 (Step NextLine)

-- there ~~ paints one column, of four rows, and ends the string
abbrev pub LastBandEndsAtASixel : Type 0
LastBandEndsAtASixel =
    ReadsAs xterm above_the_last_band (Step (Sixel 63)) (Draws (Repeat 1 15))
    × ReadsAs xterm (above_the_last_band ++ Step (Sixel 63) ∷ []) (Step (Sixel 63)) Stops

-- there !3~#2!2~ paints one column twice
abbrev pub LastBandReturnsAtARepeat : Type 0
LastBandReturnsAtARepeat =
    ReadsAs xterm above_the_last_band (Step (Repeat 3 63)) (Draws (Repeat 1 15))
    × ReadsAs xterm (above_the_last_band ++ Step (Repeat 3 63) ∷ Step (Select 2) ∷ []) (Step (Repeat 2 63))
    (DrawsTwo CarriageReturn (Repeat 1 15))

-- ---- foot

-- q"1;1;10001;3#1!6~ has six rows
abbrev pub GreatSideDoesNotCount : Type 0
GreatSideDoesNotCount =
    ReadsAs foot (Step (Raster 1 1 10001 3) ∷ Step (Select 1) ∷ []) (Step (Repeat 6 63)) (Draws (Repeat 6 63))

-- q"1;1;5;3~ has six rows
abbrev pub NarrowBoxDoesNotCount : Type 0
NarrowBoxDoesNotCount = ReadsAs foot (Step (Raster 1 1 5 3) ∷ []) (Step (Sixel 63)) (Draws (Sixel 63))

-- q"1;1;6;3~ has three
abbrev pub WideBoxCuts : Type 0
WideBoxCuts = ReadsAs foot (Step (Raster 1 1 6 3) ∷ []) (Step (Sixel 63)) (Draws (Repeat 1 7))

-- q"1;1;6;1#1;2;100;0;0#1!7~ is one row, though it ends past the width
abbrev pub DataPastTheWidthIsCut : Type 0
DataPastTheWidthIsCut =
    ReadsAs foot (Step (Raster 1 1 6 1) ∷ Step (Define 1 2 100 0 0) ∷ Step (Select 1) ∷ []) (Step (Repeat 7 63))
    (Draws (Repeat 7 1))

-- q#1;2;100;0;0#1!31~"1;1;29;40!31~ loses two columns that are painted
abbrev pub LateBoxIsUnsaid : Type 0
LateBoxIsUnsaid =
    foot (Step (Define 1 2 100 0 0) ∷ Step (Select 1) ∷ Step (Repeat 31 63) ∷ []) (Step (Raster 1 1 29 40))
    (Some (Step (Repeat 31 63))) ≡ Unsaid

-- q"1;1;1;1#1#1;2;100;0;0@ isn't red
abbrev pub PenKeepsItsColour : Type 0
PenKeepsItsColour =
    ReadsAs foot (Step (Raster 1 1 1 1) ∷ []) (Step (Select 1)) (Draws (Select 1))
    × ReadsAs foot (Step (Raster 1 1 1 1) ∷ Step (Select 1) ∷ []) (Step (Define 1 2 100 0 0)) Nothing

-- ---- mlterm

-- q#1022n has a colour of chance
abbrev pub ChanceIsUnsaid : Type 0
ChanceIsUnsaid = ReadsAs mlterm (Step (Select 1022) ∷ []) (Step (Sixel 47)) Unsaid

-- q#1;3;100;0;0#2~ has a colour of samples, and paints in another; with a sixel right after the definition it is seen
abbrev pub SamplesAreUnsaid : Type 0
SamplesAreUnsaid =
    ReadsAs mlterm (Step (Define 1 3 100 0 0) ∷ Step (Select 2) ∷ []) (Step (Sixel 63)) (Draws (Sixel 63))
    × ReadsAs mlterm (Step (Define 1 3 100 0 0) ∷ []) (Step (Sixel 63)) Unsaid

-- q#5;9;24;0;20#5!6~ is of 24, 0 and 20 percent
abbrev pub SystemNineIsPercent : Type 0
SystemNineIsPercent =
    ReadsAs mlterm [] (Step (Define 5 9 24 0 20)) (DrawsTwo (Define 5 2 24 0 20) (Select 5))

-- 051;1q mixes, and 51;1q doesn't
abbrev pub FiveMayMix : Type 0
FiveMayMix = ReadsAs mlterm [] (Start false (record { items = 51 ∷ 1 ∷ [] })) Unsaid

-- q"1;1;8;6-!31@: the repeat is right of the buffer in a band below it, which is read past its block of memory
abbrev pub CornerIsUnsaid : Type 0
CornerIsUnsaid = ReadsAs mlterm (Step (Raster 1 1 8 6) ∷ Step NextLine ∷ []) (Step (Repeat 31 1)) Unsaid

-- q"1;1;1;1#0@!32767? ends the terminal
abbrev pub FarBlankIsUnsaid : Type 0
FarBlankIsUnsaid =
    ReadsAs mlterm (Step (Raster 1 1 1 1) ∷ Step (Select 0) ∷ Step (Sixel 1) ∷ []) (Step (Repeat 32767 0)) Unsaid

-- q-"3;2;12;8-"2;2;13;5 ends it: the wider buffer has fewer rows than are copied
abbrev pub TwoBoxesBelowAreUnsaid : Type 0
TwoBoxesBelowAreUnsaid =
    ReadsAs mlterm (Step NextLine ∷ Step (Raster 3 2 12 8) ∷ Step NextLine ∷ []) (Step (Raster 2 2 13 5)) Unsaid

-- q#2~: a register that was never defined paints
abbrev pub UndefinedIsDrawn : Type 0
UndefinedIsDrawn = ReadsAs mlterm (Step (Select 2) ∷ []) (Step (Sixel 63)) (Draws (Sixel 63))

-- ---- konsole

-- q#1 fills 30 by 6, though the select is dropped
abbrev pub DroppedSelectOpens : Type 0
DroppedSelectOpens = konsole_opening (Step (Select 1) ∷ Finish false ∷ []) ≡ Step (Raster 1 1 30 6) ∷ []

-- q#256"1;1;6;6~ fills 30 by 6, too: the raster attributes are late
abbrev pub LateRasterDoesNotCount : Type 0
LateRasterDoesNotCount =
    konsole_opening (Step (Select 256) ∷ Step (Raster 1 1 6 6) ∷ Step (Sixel 63) ∷ Finish false ∷ [])
    ≡ Step (Raster 1 1 30 6) ∷ []

-- q"1;1;12;12 shows nothing
abbrev pub DroppedRasterOpensNothing : Type 0
DroppedRasterOpensNothing = konsole_opening (Step (Raster 1 1 12 12) ∷ Finish false ∷ []) ≡ []

-- q"2;1;12;13#1~ has 26 rows
abbrev pub RatioIsTall : Type 0
RatioIsTall =
    konsole_opening (Step (Raster 2 1 12 13) ∷ Step (Select 1) ∷ Step (Sixel 63) ∷ Finish false ∷ [])
    ≡ Step (Raster 2 1 12 26) ∷ []

-- q#1;3;100;0;0~#2~-!40~: all is dropped up to the new line
abbrev pub UnknownSystemSticks : Type 0
UnknownSystemSticks =
    konsole_opening (Step (Define 1 3 100 0 0) ∷ Step (Sixel 63) ∷ Step (Select 2) ∷ Step (Sixel 63) ∷ Step NextLine
    ∷ Step (Repeat 40 63) ∷ Finish false ∷ [])
    ≡ Step (Raster 1 1 40 12) ∷ []

-- after "1;1;0;6"1;1;0;6 a new line doesn't move: raster attributes without a width begin no picture
abbrev pub NoWidthBeginsNothing : Type 0
NoWidthBeginsNothing =
    ReadsAs konsole (Step (Raster 1 1 0 6) ∷ Step (Raster 1 1 0 6) ∷ []) (Step NextLine) Nothing

-- of these bytes and their events konsole hears these events
abbrev pub KonsoleHears : List ℕ → List Placed → List Event → Type 0
KonsoleHears bytes placed heard = events_of (heard_on Konsole bytes placed) ≡ heard

-- "2;1~ is a box of 8 by 6 with this ratio
abbrev pub TwoNumbersAreABox : Type 0
TwoNumbersAreABox =
    KonsoleHears (34 ∷ 50 ∷ 59 ∷ 49 ∷ 126 ∷ [])
    (placed_at 0 (Step (Raster 2 1 0 0)) ∷ placed_at 4 (Step (Sixel 63)) ∷ [])
    (Step (Raster 2 1 8 6) ∷ Step (Sixel 63) ∷ [])
    × (konsole_opening (Step (Raster 2 1 8 6) ∷ Step (Sixel 63) ∷ Finish false ∷ []) ≡ Step (Raster 2 1 8 12) ∷ [])

-- of "1~, of "1;1;6~ and of "1;1;6;0~ the model says nothing
abbrev pub OtherNumbersAreUnsaid : Type 0
OtherNumbersAreUnsaid =
    KonsoleHears (34 ∷ 49 ∷ 126 ∷ []) (placed_at 0 (Step (Raster 1 0 0 0)) ∷ placed_at 2 (Step (Sixel 63)) ∷ [])
    (Step (Raster 1 0 0 0) ∷ Step (Sixel 63) ∷ [])
    × KonsoleHears (34 ∷ 49 ∷ 59 ∷ 49 ∷ 59 ∷ 54 ∷ 126 ∷ [])
    (placed_at 0 (Step (Raster 1 1 6 0)) ∷ placed_at 6 (Step (Sixel 63)) ∷ [])
    (Step (Raster 1 1 6 0) ∷ Step (Sixel 63) ∷ [])
    × KonsoleHears (34 ∷ 49 ∷ 59 ∷ 49 ∷ 59 ∷ 54 ∷ 59 ∷ 48 ∷ 126 ∷ [])
    (placed_at 0 (Step (Raster 1 1 6 0)) ∷ placed_at 8 (Step (Sixel 63)) ∷ [])
    (Step (Raster 1 1 6 0) ∷ Step (Sixel 63) ∷ [])
    × (konsole [] (Step (Raster 1 0 0 0)) (Some (Step (Sixel 63))) ≡ Unsaid)
    × (konsole [] (Step (Raster 1 1 6 0)) (Some (Step (Sixel 63))) ≡ Unsaid)

-- ---- any model

-- each event is read with the one after it: at its position, whatever comes later
abbrev pub PositionsAreRead : Type 0
PositionsAreRead = (m : Model) (before rest : List Event) (e next : Event)
    → read_at m (before ++ e ∷ next ∷ rest) (length before) ≡ m.rule before e (Some next)

-- the last one is read without
abbrev pub LastPositionIsRead : Type 0
LastPositionIsRead = (m : Model) (before : List Event) (e : Event)
    → read_at m (before ++ e ∷ []) (length before) ≡ m.rule before e None

-- foot's picture is as high as its bands, if there are no raster attributes
abbrev pub BandsAreTheHeight : Type 0
BandsAreTheHeight =
    (events : List Event) → list_any (λ e. is_some (raster_of e)) events ≡ false
    → (foot_size events).height ≡ band_rows * band events + band_rows

-- ---- courses

-- a model that goes on to the end says all, and its reading is what all events give
abbrev pub GoesToTheEnd : Type 0
GoesToTheEnd = (m : Model) (events : List Event) → IsCourse m events (length events) Goes
    → IsSaid m events × IsReading m events (reading_below m events (length events))

-- one that has stopped says all, and its reading is what the events before give
abbrev pub StopsAtAnEvent : Type 0
StopsAtAnEvent = (m : Model) (events : List Event) → IsCourse m events (length events) Stopped
    → IsSaid m events × ((n : ℕ) × IsReading m events (reading_below m events n))

-- one that has ended ends at a position
abbrev pub EndsAtAnEvent : Type 0
EndsAtAnEvent = (m : Model) (events : List Event) → IsCourse m events (length events) Ended
    → (i : ℕ) × EndsAt m events i

-- ---- any string on konsole

-- the reading is the rectangle, and then what each event gives
abbrev pub KonsoleIsRead : Type 0
KonsoleIsRead = (events : List Event)
    → IsReading konsole_model events (konsole_opening events ++ konsole_drawing events None)

-- ---- named terminals

-- a screen that a named terminal shows of the events is the only one
abbrev pub ShowsOneScreen : Type 0
ShowsOneScreen = (named : Named) (background : Parts) (sides : ℕ × ℕ) (events : List Event) (a b : Shown)
    → IsScreenOn named background sides events a → IsScreenOn named background sides events b → a ≡ b

-- a model ends at no other position
abbrev pub EndsAtOnePosition : Type 0
EndsAtOnePosition = (m : Model) (events : List Event) (i j : ℕ) → EndsAt m events i → EndsAt m events j → i ≡ j

-- where a screen is shown the model doesn't end
abbrev pub ShownDoesNotEnd : Type 0
ShownDoesNotEnd = (named : Named) (background : Parts) (sides : ℕ × ℕ) (events : List Event) (screen : Shown) (i : ℕ)
    → IsScreenOn named background sides events screen → ¬ EndsAt (model_of named) events i

-- each named terminal shows a screen of any events, or its model ends
abbrev pub ShowsOrEnds : Type 0
ShowsOrEnds = (named : Named) (background : Parts) (sides : ℕ × ℕ) (events : List Event)
    → ((i : ℕ) × EndsAt (model_of named) events i)
    ⊎ ((screen : Shown) × IsScreenOn named background sides events screen)
